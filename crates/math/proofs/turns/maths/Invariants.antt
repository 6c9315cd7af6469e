-- The blocks before k are done: the unit is theirs.
-- Assumes nothing.
use Prim.Native.Nat.{◌-◌, ◌≤◌}
use mathlib.Core.Path.{◌≡◌}
use Rattle.unit.specs.Each.{each}
use Rattle.math.specs.Maths.{math_turn}
use Rattle.math.proofs.turns.maths.Given as goal

abbrev pub invariant-loop-k : goal.invariant-loop-k
invariant-loop-k l = (l.k ≤ 4) × (l.unit ≡ each l.k math_turn l.initial.unit)

abbrev pub decreases-loop-k : goal.decreases-loop-k
decreases-loop-k l = 4 - l.k
