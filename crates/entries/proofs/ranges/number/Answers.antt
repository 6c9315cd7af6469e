-- `entries::ranges::number` meets its contract: what the parts find joins to the judgement (`JudgeLaws`).
-- Assumes nothing.
use native.Mathlib.Nat.{lt_trans}
use native.Mathlib.Omega.{arith}
use lib.Dec.{lit<}
use mir.Facts.{to_z_pos, to_z-of_z}
use mir.Syntax.{w16, w32}
use borrow.Author.Rules.{sfits_of}
use Rattle.entries.specs.Judge.{number_of}
use Rattle.entries.proofs.ranges.number.Goals as goal

pub overflow_cast-result-in-Integer16 : goal.overflow_cast-result-in-Integer16
overflow_cast-result-in-Integer16 c = rw (to_z-of_z (sfits_of c.signed.type_inv)) (sfits_of (lt_trans c.signed.type_inv (lit< tt)))

pub returns-in-Unsigned8 : goal.returns-in-Unsigned8
unfolding number_of
returns-in-Unsigned8 c = rw c.in-Unsigned8.is (to_z_pos w32 (omega arith))

pub returns-in-Unsigned16 : goal.returns-in-Unsigned16
unfolding number_of
returns-in-Unsigned16 c = rw c.in-Unsigned16.is (to_z_pos w32 (omega arith))

pub returns-in-Integer16 : goal.returns-in-Integer16
unfolding number_of
returns-in-Integer16 c =
    rw (
      c.in-Integer16.is,
      to_z-of_z {w = w16} {z = c.signed.result} (sfits_of c.signed.type_inv),
      to_z-of_z {w = w32} {z = c.signed.result} (sfits_of (lt_trans c.signed.type_inv (lit< tt))),
    )
    c.signed.ensures

pub returns-in-Real32 : goal.returns-in-Real32
unfolding number_of
returns-in-Real32 c = rw c.in-Real32.is

pub returns-in-Unsigned32 : goal.returns-in-Unsigned32
unfolding number_of
returns-in-Unsigned32 c = rw c.in-Unsigned32.is
