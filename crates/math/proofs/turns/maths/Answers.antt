-- The blocks before k are done: the unit is theirs.
-- Assumes nothing.
use Prim.Native.Nat.{◌+◌, ◌-◌}
use mathlib.Core.Path.{◌≡◌, refl}
use native.Mathlib.Omega.{arith}
use Rattle.unit.proofs.Each.{more, done}
use Rattle.unit.specs.Each.{each}
use Rattle.unit.proofs.Slots.{has, array}
use Rattle.unit.specs.Entry.{publish}
use Rattle.unit.specs.Held.{lay}
use Rattle.math.specs.Maths.{math_turn}
use Rattle.math.proofs.turns.maths.Goals as goal

pub loop-k-init : goal.loop-k-init
unfolding each
loop-k-init c = (omega arith, refl)

pub loop-k-preserved : goal.loop-k-preserved
unfolding math_turn publish lay has
loop-k-preserved c =
    let before = c.loop-k in
    let k = before.k in
    let e : k + 1 - 1 ≡ k = omega arith in
    (omega arith, rw (more math_turn _ k, ← before.invariant.1, array 0x4530 refl k (omega arith), e, c.lay.ensures, c.number_of.ensures, c.as_real.ensures, c.signal_of-signal.ensures))

pub returns : goal.returns
returns c = done math_turn _ c.loop-k.k 4 (omega arith) c.loop-k.invariant.1
