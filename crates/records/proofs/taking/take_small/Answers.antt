-- `taking::take_small` meets its contract: the one comparison is the range (`TakeLaws`).
-- Assumes nothing.
use mathlib.Core.Path.{refl, sym, ◌∙◌}
use Rattle.records.proofs.TakeLaws.{same_size, same_fits, small_size, small_unfit, small_fit, is_there, other_size, no_data, unfit, fit}
use Rattle.records.specs.Walk.{size_in}
use Rattle.records.proofs.taking.take_small.Goals as goal

pub returns-then-four_at-ne1 : goal.returns-then-four_at-ne1
unfolding size_in
returns-then-four_at-ne1 c =
    let s = c.requires in let size = same_size c.args.row c.args.sub refl (small_size _ s) in other_size _ _ size (λ r. c.if-four_at-ne1.true (c.four_at.ensures ∙ r))

pub returns-then-rest-lt8 : goal.returns-then-rest-lt8
unfolding size_in
returns-then-rest-lt8 c =
    let s = c.requires in let size = same_size c.args.row c.args.sub refl (small_size _ s) in no_data _ _ size (sym c.four_at.ensures ∙ c.if-four_at-ne1.false) c.if-rest-lt8.true

pub returns-then-most-data_in : goal.returns-then-most-data_in
unfolding size_in
returns-then-most-data_in c =
    let s = c.requires in let size = same_size c.args.row c.args.sub refl (small_size _ s) in unfit _ _ size (sym c.four_at.ensures ∙ c.if-four_at-ne1.false) c.if-rest-lt8.false (c.data_in.ensures ∙ is_there _ _ (small_size _ s) c.if-rest-lt8.false) (small_unfit _ s _ c.if-most-data_in.true ∙ same_fits c.args.row c.args.sub refl _) refl

pub returns : goal.returns
unfolding size_in
returns c =
    let s = c.requires in let size = same_size c.args.row c.args.sub refl (small_size _ s) in fit _ _ size (sym c.four_at.ensures ∙ c.if-four_at-ne1.false) c.if-rest-lt8.false (c.data_in.ensures ∙ is_there _ _ (small_size _ s) c.if-rest-lt8.false) (small_fit _ s _ c.if-most-data_in.false ∙ same_fits c.args.row c.args.sub refl _) refl
