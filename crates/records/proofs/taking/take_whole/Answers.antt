-- `taking::take_whole` meets its contract: every word fits (`TakeLaws`).
-- Assumes nothing.
use mathlib.Core.Path.{refl, sym, ◌∙◌}
use Rattle.records.specs.Walk.{size_in}
use Rattle.records.proofs.TakeLaws.{same_size, same_fits, whole_size, whole_fits, other_size, no_data, fit}
use Rattle.records.proofs.taking.take_whole.Goals as goal

pub returns-then-four_at-ne2 : goal.returns-then-four_at-ne2
unfolding size_in
returns-then-four_at-ne2 c =
    let s = c.requires in let size = same_size c.args.row c.args.sub refl (whole_size s) in other_size _ _ size (λ r. c.if-four_at-ne2.true (c.four_at.ensures ∙ r))

pub returns-then-rest-lt9 : goal.returns-then-rest-lt9
unfolding size_in
returns-then-rest-lt9 c =
    let s = c.requires in let size = same_size c.args.row c.args.sub refl (whole_size s) in no_data _ _ size (sym c.four_at.ensures ∙ c.if-four_at-ne2.false) c.if-rest-lt9.true

pub returns : goal.returns
unfolding size_in
returns c =
    let s = c.requires in let size = same_size c.args.row c.args.sub refl (whole_size s) in fit _ c.args.rest.now size (sym c.four_at.ensures ∙ c.if-four_at-ne2.false) c.if-rest-lt9.false refl (whole_fits _ s ∙ same_fits c.args.row c.args.sub refl _) refl
