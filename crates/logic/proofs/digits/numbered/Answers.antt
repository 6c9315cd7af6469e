-- By the tests on the number.
-- Assumes nothing.
use borrow.Author.Tests.{eq-eqb, ne_eqb, lt-ltb, le-ltb}
use Rattle.numbers.specs.Choice.{first}
use Rattle.logic.specs.Digits.{within}
use Rattle.logic.proofs.digits.numbered.Goals as goal

pub returns-then-number-eq0 : goal.returns-then-number-eq0
unfolding within first
returns-then-number-eq0 c = rw (eq-eqb _ _ c.if-number-eq0.true)

pub returns-then-count-number : goal.returns-then-count-number
unfolding within first
returns-then-count-number c = rw (ne_eqb _ _ c.if-number-eq0.false, lt-ltb _ _ c.if-count-number.true)

pub returns : goal.returns
unfolding within first
returns c = rw (ne_eqb _ _ c.if-number-eq0.false, le-ltb _ _ c.if-count-number.false) c.byte_at.ensures
