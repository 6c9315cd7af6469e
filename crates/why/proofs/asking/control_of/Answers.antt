-- Both entries by their slots.
-- Assumes nothing.
use mathlib.Core.Path.{refl}
use native.Mathlib.Omega.{arith}
use Rattle.unit.proofs.Slots.{has, array}
use Rattle.unit.specs.Entry.{byte}
use Rattle.why.specs.Trail.{pair}
use Rattle.why.proofs.asking.control_of.Goals as goal

pub returns : goal.returns
unfolding pair byte has
returns c = let k = c.args.output.k in
    let h = c.args.output.is_one in
    rw (array 0x2340 refl k h, array 0x2341 refl k h) c.pair.ensures
