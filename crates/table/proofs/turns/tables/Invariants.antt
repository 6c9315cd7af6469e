-- The tables before k are done: the unit is theirs.
-- Assumes nothing.
use Prim.Native.Nat.{◌-◌, ◌≤◌}
use mathlib.Core.Path.{◌≡◌}
use Rattle.unit.specs.Each.{each}
use Rattle.table.specs.Tables.{table_turn}
use Rattle.table.proofs.turns.tables.Given as goal

abbrev pub invariant-loop-k : goal.invariant-loop-k
invariant-loop-k l = (l.k ≤ 6) × (l.unit ≡ each l.k table_turn l.initial.unit)

abbrev pub decreases-loop-k : goal.decreases-loop-k
decreases-loop-k l = 6 - l.k
