-- `deciding::write` meets its contract: a name that is no entry's is refused.
-- Assumes nothing.
use Rattle.sdo.specs.Answers.{writing, refused}
use Rattle.sdo.proofs.deciding.write.Goals as goal

pub returns-in_default : goal.returns-in_default
unfolding writing refused
returns-in_default c = rw c.in_default.is
