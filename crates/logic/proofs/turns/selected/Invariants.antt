-- None of those before t holds, so the first from t on is the first of all.
-- Assumes nothing.
use Prim.Native.Nat.{◌+◌, ◌-◌, ◌≤◌}
use mathlib.Core.Path.{◌≡◌}
use Rattle.logic.specs.Logics.{first_that_holds}
use Rattle.logic.proofs.turns.selected.Given as goal

abbrev pub invariant-loop-t : goal.invariant-loop-t
invariant-loop-t l = (l.t ≤ 3) × (first_that_holds l.logic.unit.now (l.logic.k + 1) (l.t + 1) (3 - l.t) ≡ first_that_holds l.logic.unit.now (l.logic.k + 1) 1 3)

abbrev pub decreases-loop-t : goal.decreases-loop-t
decreases-loop-t l = 3 - l.t
