-- Each arm knows the source: each array by its slot.
-- Assumes nothing.
use mathlib.Core.Path.{refl, ap, ◌∙◌}
use borrow.Author.Tests.{ne_eqb}
use Rattle.numbers.specs.Choice.{first}
use Rattle.unit.proofs.Slots.{has}
use Rattle.logic.specs.Digits.{digits_of, y_digits}
use Rattle.logic.proofs.digits.DigitSlots.{in_array}
use Rattle.logic.proofs.digits.digits_of.Goals as goal

pub returns-in-1 : goal.returns-in-1
unfolding digits_of first has
returns-in-1 c = rw c.in-1.is (c.numbered.ensures ∙ in_array 0x2502 12 refl _ _)

pub returns-in-2 : goal.returns-in-2
unfolding digits_of first has
returns-in-2 c = rw c.in-2.is (c.numbered-in-2.ensures ∙ in_array 0x6132 4 refl _ _)

pub returns-in-3 : goal.returns-in-3
unfolding digits_of first has
returns-in-3 c = rw c.in-3.is c.y_digits.ensures

pub returns-in-4 : goal.returns-in-4
unfolding digits_of first has
returns-in-4 c = rw c.in-4.is (c.y_digits-in-4.ensures ∙ ap (y_digits _) (c.numbered-in-4.ensures ∙ in_array 0x4010 2 refl _ _))

pub returns-in_default : goal.returns-in_default
unfolding digits_of first has
returns-in_default c =
    let other = c.in_default.in_default-own.rest in
    let n = c.args.pair.source in
    rw (ne_eqb n 1 other.0.0.0.1, ne_eqb n 2 other.0.0.1, ne_eqb n 3 other.0.1, ne_eqb n 4 other.1)
