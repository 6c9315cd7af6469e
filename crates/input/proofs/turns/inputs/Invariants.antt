-- The inputs before k are done: the unit is theirs.
-- Assumes nothing.
use Prim.Native.Nat.{◌-◌, ◌≤◌}
use mathlib.Core.Path.{◌≡◌}
use lib.IntN.{pos}
use lib.ListN.{get_or}
use Rattle.unit.specs.Each.{each}
use Rattle.input.specs.Inputs.{input_turn}
use Rattle.input.proofs.turns.inputs.Given as goal

abbrev pub invariant-loop-row : goal.invariant-loop-row
invariant-loop-row l = (l.row ≤ 4) × (l.unit ≡ each l.row (λ n. input_turn (get_or l.samples (n - 1) (pos 0)) n) l.initial.unit)

abbrev pub decreases-loop-row : goal.decreases-loop-row
decreases-loop-row l = 4 - l.row
