-- By the contracts of the two.
-- Assumes nothing.
use Rattle.logic.proofs.turns.counts_at.Goals as goal

pub returns : goal.returns
returns c = rw (c.does_count.ensures, c.judge_at.ensures)
