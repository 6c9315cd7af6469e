-- The words before k are kept.
-- Assumes nothing.
use Prim.Native.Nat.{◌+◌, ◌-◌}
use mathlib.Core.Path.{◌≡◌, refl}
use native.Mathlib.Omega.{arith}
use Rattle.dictionary.specs.Unit.{signals_at, before_at}
use Rattle.unit.proofs.Each.{more, done}
use Rattle.unit.specs.Each.{each}
use Rattle.controller.specs.Tick.{recall, recalled}
use Rattle.controller.proofs.tick.recall.Goals as goal

pub loop-k-init : goal.loop-k-init
unfolding each
loop-k-init c = (omega arith, refl)

pub loop-k-preserved : goal.loop-k-preserved
unfolding recall signals_at before_at
loop-k-preserved c =
    let before = c.loop-k in
    let k = before.k in
    let e : k + 1 - 1 ≡ k = omega arith in
    (omega arith, rw (more recall _ k, ← before.invariant.1, e))

pub returns : goal.returns
unfolding recalled
returns c = done recall _ c.loop-k.k 32 (omega arith) c.loop-k.invariant.1
