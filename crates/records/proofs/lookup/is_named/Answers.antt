-- `lookup::is_named` meets its contract.
-- Assumes nothing.
use mathlib.Core.Path.{sym, ◌∙◌}
use borrow.Author.Tests.{eq-eqb, ne_eqb}
use Rattle.records.specs.Walk.{index_in, sub_in}
use Rattle.records.proofs.lookup.is_named.Goals as goal

pub returns-then-two_at-index : goal.returns-then-two_at-index
unfolding sub_in index_in
returns-then-two_at-index c = rw (eq-eqb _ _ (sym c.two_at.ensures ∙ c.if-two_at-index.true))

pub returns-else-two_at-index : goal.returns-else-two_at-index
unfolding index_in
returns-else-two_at-index c = rw (ne_eqb _ _ (λ q. c.if-two_at-index.false (c.two_at.ensures ∙ q)), ne_eqb _ _ c.if-two_at-index.false)
