-- Both entries by their slots.
-- Assumes nothing.
use mathlib.Core.Path.{refl}
use native.Mathlib.Omega.{arith}
use Rattle.unit.proofs.Slots.{have, math_array}
use Rattle.unit.specs.Entry.{byte}
use Rattle.why.specs.Trail.{pair, math_pair}
use Rattle.why.proofs.trailing.math_pair.Goals as goal

pub returns : goal.returns
unfolding math_pair pair byte have
returns c = let a = c.args in
    rw (math_array 0x4000 refl a.math.k a.math.is_one a.i (omega arith), math_array 0x4001 refl a.math.k a.math.is_one a.i (omega arith)) c.pair_at.ensures
