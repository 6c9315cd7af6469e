-- Both words.
-- Assumes nothing.
use Rattle.unit.proofs.pairs.pair_at.Goals as goal

pub returns : goal.returns
returns c = rw (c.byte_at.ensures, c.byte_at-2.ensures)
