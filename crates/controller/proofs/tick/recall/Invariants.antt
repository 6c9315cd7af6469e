-- The words before k are kept.
-- Assumes nothing.
use Prim.Native.Nat.{◌-◌, ◌≤◌}
use mathlib.Core.Path.{◌≡◌}
use Rattle.unit.specs.Each.{each}
use Rattle.controller.specs.Tick.{recall}
use Rattle.controller.proofs.tick.recall.Given as goal

abbrev pub invariant-loop-k : goal.invariant-loop-k
invariant-loop-k l = (l.k ≤ 32) × (l.unit ≡ each l.k recall l.initial.unit)

abbrev pub decreases-loop-k : goal.decreases-loop-k
decreases-loop-k l = 32 - l.k
