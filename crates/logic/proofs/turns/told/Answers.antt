-- By the test.
-- Assumes nothing.
use Rattle.numbers.specs.Choice.{first}
use Rattle.logic.proofs.turns.told.Goals as goal

pub returns-then-holds : goal.returns-then-holds
unfolding first
returns-then-holds c = rw c.if-holds.true

pub returns : goal.returns
unfolding first
returns c = rw c.if-holds.false
