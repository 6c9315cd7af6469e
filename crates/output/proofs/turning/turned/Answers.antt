-- By cases of the response.
-- Assumes nothing.
use Rattle.numbers.specs.Choice.{first}
use Rattle.numbers.proofs.Tests.{tests}
use Rattle.output.proofs.turning.turned.Goals as goal

pub returns-then-response-eq1 : goal.returns-then-response-eq1
unfolding first
returns-then-response-eq1 c = search tests

pub returns : goal.returns
unfolding first
returns c = search tests
