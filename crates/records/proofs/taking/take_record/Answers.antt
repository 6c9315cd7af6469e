-- `taking::take_record` meets its contract, test by test (`TakeLaws`).
-- Assumes nothing.
use mathlib.Core.Path.{sym, ◌∙◌}
use Rattle.records.specs.Rows.{entry_at}
use Rattle.records.specs.Walk.{sub_in, index_in}
use Rattle.records.proofs.TakeLaws.{no_head, other_index, other_sub, name_right}
use Rattle.records.proofs.taking.take_record.Goals as goal

pub returns-then-rest-lt7 : goal.returns-then-rest-lt7
returns-then-rest-lt7 c = no_head _ _ c.if-rest-lt7.true

pub returns-then-two_at-row : goal.returns-then-two_at-row
unfolding entry_at index_in
returns-then-two_at-row c = other_index _ _ c.if-rest-lt7.false (λ q. c.if-two_at-row.true (c.two_at.ensures ∙ q))

pub returns-then-rest-sub : goal.returns-then-rest-sub
unfolding entry_at sub_in index_in
returns-then-rest-sub c =
    other_sub _ _ c.if-rest-lt7.false (sym c.two_at.ensures ∙ c.if-two_at-row.false) c.if-rest-sub.true

pub returns : goal.returns
unfolding entry_at sub_in index_in
returns c =
    c.take_named.ensures ∙ name_right _ _ c.if-rest-lt7.false (sym c.two_at.ensures ∙ c.if-two_at-row.false) c.if-rest-sub.false
