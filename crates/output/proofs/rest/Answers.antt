-- Its own words.
-- Assumes nothing.
use mir.Facts.{to_z-of_z}
use Rattle.output.specs.Output.{rests}
use Rattle.output.proofs.rest.Goals as goal

pub returns : goal.returns
unfolding rests
returns c = rw (to_z-of_z c.ranges.command)
