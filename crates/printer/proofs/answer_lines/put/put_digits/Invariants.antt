-- The digits of a number, from the last place to the first.
-- Assumes nothing.
use mathlib.Core.Path.{◌≡◌}
use lib.ListN.{length}
use lib.Seq.{sets}
use Rattle.printer.specs.Printing.{last_digits, digits}
use Rattle.printer.proofs.answer_lines.put.put_digits.Given as goal

abbrev pub invariant-loop-place : goal.invariant-loop-place
invariant-loop-place l = (length l.out ≡ length l.initial.out) × (sets l.out l.at (last_digits l.place l.m) ≡ sets l.initial.out l.at (digits l.n))
