-- `serving::serve` meets its contract: whoever is answered sent eight bytes and has room for eight (`AnswerLaws`).
-- Assumes nothing.
use mathlib.Core.Path.{refl, sym, ◌∙◌}
use Rattle.sdo.specs.Served.{after}
use Rattle.sdo.proofs.AnswerLaws.{heard}
use Rattle.sdo.proofs.ReplyLaws.{sent_nothing}
use Rattle.sdo.proofs.serving.serve.Goals as goal

pub returns-in_err-answer : goal.returns-in_err-answer
unfolding after
returns-in_err-answer c =
    rw c.from_residual.ensures
    (record { answered = sym c.in_err-answer.was ∙ c.decide.ensures; state = refl; bytes = sent_nothing _ _ })

pub send-requires : goal.send-requires
send-requires c = heard _ _ _ _ (sym c.in_ok-answer.was ∙ c.decide.ensures)
