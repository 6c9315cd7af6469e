-- The product over the ramp.
-- Assumes nothing.
use Rattle.output.specs.Output.{way}
use Rattle.output.proofs.movement.Goals as goal

pub returns : goal.returns
unfolding way
returns c = rw (c.from.ensures, c.from-2.ensures)
