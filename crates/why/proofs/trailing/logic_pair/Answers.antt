-- 4010h by its slot.
-- Assumes nothing.
use mathlib.Core.Path.{refl}
use native.Mathlib.Omega.{arith}
use Rattle.unit.proofs.Slots.{has}
use Rattle.unit.proofs.WordLaws.{byte_is}
use Rattle.why.specs.Trail.{logic_pair}
use Rattle.why.proofs.trailing.logic_pair.Goals as goal

pub returns : goal.returns
unfolding logic_pair has
returns c = rw (byte_is 0x4010 c.args.logic.unit.now c.args.logic.k c.args.logic.is_one c.byte.ensures refl)
