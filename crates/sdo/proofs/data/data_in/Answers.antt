-- `data::data_in` meets its contract: the bytes stand where the definition reads them (`FrameLaws`).
-- Assumes nothing.
use mathlib.Core.Path.{◌∙◌}
use native.Mathlib.Omega.{arith}
use Rattle.sdo.proofs.FrameLaws.{data_1, data_2, data_4}
use Rattle.sdo.proofs.data.data_in.Goals as goal

pub returns-in-1 : goal.returns-in-1
returns-in-1 c = c.four.ensures ∙ data_1 _ (omega arith) _ (omega arith)

pub returns-in-2 : goal.returns-in-2
returns-in-2 c = c.four-in-2.ensures ∙ data_2 _ (omega arith) _ (omega arith)

pub returns-in_default : goal.returns-in_default
returns-in_default c = c.four-in_default.ensures ∙ data_4 _ (omega arith) _ (omega arith)
