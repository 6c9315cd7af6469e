-- By the sign.
-- Assumes nothing.
use Rattle.numbers.specs.Choice.{first}
use Rattle.numbers.proofs.Tests.{tests}
use Rattle.why.specs.Answer.{extended}
use Rattle.why.proofs.asking.extended.Goals as goal

pub returns-then-word-lt32768 : goal.returns-then-word-lt32768
unfolding extended first
returns-then-word-lt32768 c = search tests

pub returns : goal.returns
unfolding extended first
returns c = search tests
