-- `deciding::decide` meets its contract: what is heard is obeyed (`AnswerLaws`).
-- Assumes nothing.
use mathlib.Core.Path.{◌∙◌}
use Rattle.sdo.proofs.AnswerLaws.{no_answer, an_answer}
use Rattle.sdo.proofs.deciding.decide.Goals as goal

pub returns-in_err-frame : goal.returns-in_err-frame
returns-in_err-frame c = c.from_residual.ensures ∙ no_answer _ _ _ c.in_err-frame.ensures

pub returns : goal.returns
returns c = let f = c.in_ok-frame.ensures in an_answer _ _ _ f.0 _ (rw f.1 at c.obey.ensures)
