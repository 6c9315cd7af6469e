-- By the length, and then by what is asked.
-- Assumes nothing.
use mathlib.Core.Path.{sym, ap, ◌∙◌}
use native.Mathlib.Omega.{arith}
use Rattle.std.specs.Prelude.{Some}
use Rattle.lever.proofs.Lines.{answers, too_long, framed, timed, unknown, beside, unheard}
use Rattle.lever.proofs.answering.answer.Goals as goal

pub returns-then-line-gt64 : goal.returns-then-line-gt64
returns-then-line-gt64 c = answers (too_long _ _ _ (omega arith)) (unheard _ c.show_unknown.ensures)

pub returns-in-Some-Frame : goal.returns-in-Some-Frame
returns-in-Some-Frame c =
    let f = c.in-Some-Frame in
    answers (framed _ _ _ (omega arith) _ (sym c.read.ensures ∙ f.is ∙ ap Some f.field-0-is)) (beside _ c.answer.ensures)

pub returns-in-Some-Tick : goal.returns-in-Some-Tick
returns-in-Some-Tick c =
    let t = c.in-Some-Tick in
    answers (timed _ _ _ (omega arith) _ (sym c.read.ensures ∙ t.is ∙ ap Some t.field-0-is)) c.take_tick.ensures

pub returns-in-None : goal.returns-in-None
returns-in-None c = answers (unknown _ _ _ (omega arith) (sym c.read.ensures ∙ c.in-None.is)) (beside _ c.answer-in-None.ensures)
