-- The inputs before i have joined: the running result is theirs.
-- Assumes nothing.
use Prim.Native.Nat.{◌+◌, ◌-◌, ◌≤◌, ◌<◌}
use mathlib.Core.Path.{◌≡◌}
use Rattle.math.specs.Fold.{running}
use Rattle.math.specs.Maths.{joined_to}
use Rattle.math.proofs.turns.combine.Given as goal

abbrev pub invariant-loop-i : goal.invariant-loop-i
invariant-loop-i l = (0 < l.i) × (l.i ≤ 4) × (running l.fold ≡ joined_to l.math.unit.now (l.math.k + 1) (running l.initial.fold) (l.i - 1))

abbrev pub decreases-loop-i : goal.decreases-loop-i
decreases-loop-i l = 4 - l.i
