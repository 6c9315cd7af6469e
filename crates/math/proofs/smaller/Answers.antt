-- `smaller`: each return by the comparison that led there.
-- Assumes nothing.
use Rattle.numbers.proofs.Tests.{tests}
use Rattle.numbers.specs.Choice.{first}
use Rattle.math.specs.Math.{operated}
use Rattle.math.proofs.smaller.Goals as goal

pub returns-then-x-run : goal.returns-then-x-run
unfolding operated first
returns-then-x-run c = search tests

pub returns : goal.returns
unfolding operated first
returns c = search tests
