-- The library's contract, so that a wrong body is refused for what it is.
-- Assumes nothing.
use Rattle.spool_c.proofs.spool_tick.Goals as goal

pub returns : goal.returns
returns c = record { unit = c.spool_tick.ensures.unit; sent = c.spool_tick.ensures.sent }
