-- By the tests on the number, then the slot of 30z3h.
-- Assumes nothing.
use mathlib.Core.Path.{refl, ◌∙◌}
use native.Mathlib.Omega.{arith}
use borrow.Author.Tests.{eq-eqb, ne_eqb, lt-ltb, le-ltb}
use Rattle.numbers.specs.Choice.{first}
use Rattle.unit.proofs.Slots.{have}
use Rattle.logic.specs.Digits.{within, y_digits}
use Rattle.logic.proofs.digits.DigitSlots.{in_tables}
use Rattle.logic.proofs.digits.y_digits.Goals as goal

pub returns-then-z-eq0 : goal.returns-then-z-eq0
unfolding y_digits within first
returns-then-z-eq0 c = rw (eq-eqb _ _ c.if-z-eq0.true)

pub returns-then-z-gt6 : goal.returns-then-z-gt6
unfolding y_digits within first
returns-then-z-gt6 c = rw (ne_eqb _ _ c.if-z-eq0.false, lt-ltb _ _ c.if-z-gt6.true)

pub returns : goal.returns
unfolding y_digits within first have
returns c =
    rw (ne_eqb _ _ c.if-z-eq0.false, le-ltb _ _ c.if-z-gt6.false)
    (c.byte_at.ensures ∙ in_tables refl _ _ (omega arith) (omega arith))
