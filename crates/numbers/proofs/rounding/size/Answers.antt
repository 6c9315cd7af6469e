-- The size of a REAL32, rounded, by its exponent and digits (`Digits`).
-- Assumes nothing.
use Prim.Native.Nat.{◌+◌, ◌-◌, ◌/◌, ◌%◌}
use borrow.Author.Rules.{rules}
use native.Mathlib.Omega.{arith}
use lib.Ieee.{binary32, to_bits}
use lib.Pow.{shr_le}
use Rattle.numbers.proofs.rounding.Digits.{is_number, under_half, in_reach, from_half}
use Rattle.numbers.proofs.rounding.size.Goals as goal

pub float_to_bits-bits : goal.float_to_bits-bits
float_to_bits-bits c = is_number c.args.y c.requires.0

pub returns-then-bits-lt1056964608 : goal.returns-then-bits-lt1056964608
returns-then-bits-lt1056964608 c = under_half c.args.y c.requires.0 (search rules) c.if-bits-lt1056964608.true

pub overflow_sub-result : goal.overflow_sub-result
overflow_sub-result c = in_reach c.args.y c.requires.0 (search rules) c.requires.1

pub overflow_add-result : goal.overflow_add-result
overflow_add-result c = omega (arith, shr_le (to_bits binary32 c.args.y % 0x80_0000 + 0x80_0000) (149 - to_bits binary32 c.args.y / 0x80_0000))

pub returns : goal.returns
returns c = from_half c.args.y c.requires.0 (search rules) c.if-bits-lt1056964608.false c.requires.1
