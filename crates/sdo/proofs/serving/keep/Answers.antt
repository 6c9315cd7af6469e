-- `serving::keep` meets its contract, case by case.
-- Assumes nothing.
use Rattle.dictionary.specs.Unit.{ticked_at, unticked}
use Rattle.sdo.specs.Served.{after}
use Rattle.sdo.proofs.serving.keep.Goals as goal

pub returns-in_default : goal.returns-in_default
unfolding after
returns-in_default c = rw c.in_default.is

pub returns-in_default-done : goal.returns-in_default-done
unfolding after
returns-in_default-done c = rw (c.in-Ok.is, c.in_default-done.is)

pub returns : goal.returns
unfolding after unticked ticked_at
returns c = rw (c.in-Ok.is, c.in-Written.is, c.put.ensures)
