-- `changes::noting::note_one` meets its contract (`ComparingLaws`).
-- Assumes nothing.
use mathlib.Core.Path.{refl, sym, ◌∙◌}
use Rattle.lists.specs.Noting.{Once}
use Rattle.lists.proofs.changes.ComparingLaws.{same_words, other_words}
use Rattle.lists.proofs.changes.noting.note_one.Goals as goal

pub returns-then-four_before : goal.returns-then-four_before
unfolding Once
returns-then-four_before c =
    rw (same_words _ _ _ _ c.requires.0 refl (sym c.four_before.ensures ∙ c.if-four_before.true ∙ c.four_before-2.ensures)) (refl, refl)

pub returns : goal.returns
unfolding Once
returns c =
    let f = c.four_before in
    let g = c.four_before-2 in
    rw (other_words _ _ _ _ c.requires.0 refl (λ e. c.if-four_before.false (f.ensures ∙ e ∙ sym g.ensures)), ← c.rises_at-up.ensures) c.put_note.ensures
