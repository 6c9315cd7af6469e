-- Past the end a list reads its default.
-- Assumes nothing.
use mathlib.Core.Path.{sym}
use lib.ListN.{get_or-eq_default}
use Rattle.dictionary.proofs.words.word_at.Goals as goal

pub returns-else-slot-words : goal.returns-else-slot-words
returns-else-slot-words c = sym (get_or-eq_default c.args.words.now 0 {n = c.args.slot} c.if-slot-words.false)
