-- Two hex digits, one after the other.
-- Assumes nothing.
use mathlib.Core.Path.{refl}
use native.Mathlib.Omega.{arith}
use native.Mathlib.Numerals.{add-one}
use lib.ListN.{length-set}
use Rattle.printer.specs.Printing.{hex2}
use Rattle.printer.proofs.answer_lines.put.put_hex.Goals as goal

pub bounds-out-at-2 : goal.bounds-out-at-2
bounds-out-at-2 c = simp length-set (omega arith)

pub returns : goal.returns
unfolding hex2
returns c = record { stored = rw (c.hex_digit.ensures, c.hex_digit-2.ensures, add-one); place = refl }
