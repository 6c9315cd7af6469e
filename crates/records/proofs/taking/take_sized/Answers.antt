-- `taking::take_sized` meets its contract, test by test (`TakeLaws`).
-- Assumes nothing.
use mathlib.Core.Path.{sym, ◌∙◌}
use Rattle.records.proofs.TakeLaws.{same_size, same_fits, is_there, other_size, no_data, unfit, fit}
use Rattle.records.specs.Walk.{size_in}
use Rattle.records.proofs.taking.take_sized.Goals as goal

pub returns-then-four_at-size : goal.returns-then-four_at-size
unfolding size_in
returns-then-four_at-size c =
    let s = c.requires in let size = same_size _ _ s.0 s.1 in other_size _ _ size (λ r. c.if-four_at-size.true (c.four_at.ensures ∙ r))

pub returns-then-rest-size : goal.returns-then-rest-size
unfolding size_in
returns-then-rest-size c =
    let s = c.requires in let size = same_size _ _ s.0 s.1 in no_data _ _ size (sym c.four_at.ensures ∙ c.if-four_at-size.false) c.if-rest-size.true

pub returns-then-fits : goal.returns-then-fits
unfolding size_in
returns-then-fits c =
    let s = c.requires in let size = same_size _ _ s.0 s.1 in fit _ _ size (sym c.four_at.ensures ∙ c.if-four_at-size.false) c.if-rest-size.false (c.data_in.ensures ∙ is_there _ _ s.1 c.if-rest-size.false) (c.fits.ensures ∙ same_fits _ _ s.0 _) c.if-fits.true

pub returns : goal.returns
unfolding size_in
returns c =
    let s = c.requires in let size = same_size _ _ s.0 s.1 in unfit _ _ size (sym c.four_at.ensures ∙ c.if-four_at-size.false) c.if-rest-size.false (c.data_in.ensures ∙ is_there _ _ s.1 c.if-rest-size.false) (c.fits.ensures ∙ same_fits _ _ s.0 _) c.if-fits.false
