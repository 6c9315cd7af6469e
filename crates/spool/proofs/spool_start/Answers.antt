-- The start's own equation, and two zeros.
-- Assumes nothing.
use borrow.Author.Rules.{rules}
use Rattle.spool.specs.Interlock.{sent_at_start}
use Rattle.spool.proofs.spool_start.Goals as goal

pub returns : goal.returns
unfolding sent_at_start
returns c = search rules
