-- The inputs before i were not in error (`Nexts`).
-- Assumes nothing.
use Prim.Native.Nat.{◌+◌, ◌-◌, ◌≤◌}
use mathlib.Core.Path.{◌≡◌}
use Rattle.table.specs.Table.{least}
use Rattle.why.specs.Trail.{wrong, lowest}
use Rattle.why.proofs.trailing.math_next.Given as goal

abbrev pub invariant-loop-i : goal.invariant-loop-i
invariant-loop-i l = (l.i ≤ 4) × (least (wrong l.math.unit.now l.math.k) (l.i + 1) (4 - l.i) ≡ lowest l.math.unit.now l.math.k)

abbrev pub decreases-loop-i : goal.decreases-loop-i
decreases-loop-i l = 4 - l.i
