-- The blocks before k are done: the unit is theirs.
-- Assumes nothing.
use Prim.Native.Nat.{◌-◌, ◌≤◌}
use mathlib.Core.Path.{◌≡◌}
use Rattle.unit.specs.Each.{each}
use Rattle.logic.specs.Logics.{logic_turn}
use Rattle.logic.proofs.turns.logics.Given as goal

abbrev pub invariant-loop-k : goal.invariant-loop-k
invariant-loop-k l = (l.k ≤ 2) × (l.unit ≡ each l.k logic_turn l.initial.unit)

abbrev pub decreases-loop-k : goal.decreases-loop-k
decreases-loop-k l = 2 - l.k
