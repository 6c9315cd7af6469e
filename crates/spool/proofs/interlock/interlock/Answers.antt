-- Both numbers by their own contracts.
-- Assumes nothing.
use borrow.Author.Rules.{rules}
use Rattle.spool.specs.Interlock.{interlocked}
use Rattle.spool.proofs.interlock.interlock.Goals as goal

pub returns : goal.returns
unfolding interlocked
returns c = search rules
