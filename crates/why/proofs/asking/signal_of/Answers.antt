-- The pair is looked up.
-- Assumes nothing.
use Rattle.why.specs.Answer.{signal}
use Rattle.why.proofs.asking.signal_of.Goals as goal

pub returns : goal.returns
unfolding signal
returns c = c.look_up.ensures
