-- `sdo::serving::put` meets its contract: past the end nothing is stored (`ReplyLaws`).
-- Assumes nothing.
use mathlib.Core.Path.{sym}
use Rattle.sdo.proofs.ReplyLaws.{set_past}
use Rattle.sdo.proofs.serving.put.Goals as goal

pub returns-else-slot-words : goal.returns-else-slot-words
returns-else-slot-words c = sym (set_past _ _ _ c.if-slot-words.false)
