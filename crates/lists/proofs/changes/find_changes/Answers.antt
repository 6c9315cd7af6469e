-- `changes::find_changes` meets its contract: what reading each image finds decides (`FindingLaws`).
-- Assumes nothing.
use mathlib.Core.Path.{sym, ◌∙◌}
use Rattle.std.proofs.lemmas.Result.{err_from_is_err_and}
use Rattle.lists.proofs.changes.FindingLaws.{was_good, was_refused, current_refused, wanted_refused, both_good}
use Rattle.lists.proofs.changes.find_changes.Goals as goal

pub returns-in_err-map_err : goal.returns-in_err-map_err
returns-in_err-map_err c =
    let w = was_refused _ c.check.result c.map_err.ensures.cases c.in_err-map_err.was in
    let p = err_from_is_err_and c.from_residual.result c.from_residual.ensures.1 in
    rw (p.1, p.2, w.2) (current_refused (sym c.check.ensures ∙ w.1))

pub returns-in_err-map_err-2 : goal.returns-in_err-map_err-2
returns-in_err-map_err-2 c =
    let g = was_good _ c.check.result c.map_err.ensures.cases c.in_ok-map_err.was in
    let w = was_refused _ c.check-2.result c.map_err-2.ensures.cases c.in_err-map_err-2.was in
    let p = err_from_is_err_and c.from_residual-in_err-map_err-2.result c.from_residual-in_err-map_err-2.ensures.1 in
    rw (p.1, p.2, w.2) (wanted_refused (sym c.check.ensures ∙ g) (sym c.check-2.ensures ∙ w.1))

pub returns : goal.returns
returns c =
    both_good (sym c.check.ensures ∙ was_good _ c.check.result c.map_err.ensures.cases c.in_ok-map_err.was)
    (sym c.check-2.ensures ∙ was_good _ c.check-2.result c.map_err-2.ensures.cases c.in_ok-map_err-2.was) c.note_all.ensures.0 c.note_all.ensures.1
