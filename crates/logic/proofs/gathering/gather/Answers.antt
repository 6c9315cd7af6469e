-- `gather`: by the two tests, with the contract of `is_both`.
-- Assumes nothing.
use borrow.Author.Tests.{eq-eqb, ne_eqb}
use Rattle.numbers.specs.Choice.{first}
use Rattle.logic.specs.Gathering.{gathered}
use Rattle.logic.proofs.gathering.gather.Goals as goal

pub returns-then-c-eq0 : goal.returns-then-c-eq0
unfolding gathered first
returns-then-c-eq0 c = rw (eq-eqb _ _ c.if-c-eq0.true)

pub returns-then-is_both : goal.returns-then-is_both
unfolding gathered first
returns-then-is_both c = rw (ne_eqb _ _ c.if-c-eq0.false, ← c.is_both.ensures, c.if-is_both.true)

pub returns : goal.returns
unfolding gathered first
returns c = rw (ne_eqb _ _ c.if-c-eq0.false, ← c.is_both.ensures, c.if-is_both.false)
