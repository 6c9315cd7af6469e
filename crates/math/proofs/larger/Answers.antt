-- `larger`: each return by the comparison that led there.
-- Assumes nothing.
use Rattle.numbers.proofs.Tests.{tests}
use Rattle.numbers.specs.Choice.{first}
use Rattle.math.specs.Math.{operated}
use Rattle.math.proofs.larger.Goals as goal

pub returns-then-run-x : goal.returns-then-run-x
unfolding operated first
returns-then-run-x c = search tests

pub returns : goal.returns
unfolding operated first
returns c = search tests
