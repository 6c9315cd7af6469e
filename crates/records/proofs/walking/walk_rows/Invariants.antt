-- `walking::walk_rows` meets its contract: what is left of the rows is walked over what is left of the bytes (`WalkLaws`).
-- Assumes nothing.
use mathlib.Core.Path.{◌≡◌}
use mathlib.Core.List.{flat_map}
use Prim.Native.Nat.{◌-◌, ◌≤◌}
use lib.ListN.{length, drop}
use Rattle.records.specs.Rows.{row_of}
use Rattle.records.specs.Walk.{walked, behind}
use Rattle.records.proofs.walking.walk_rows.Given as goal

abbrev pub invariant-loop-row : goal.invariant-loop-row
invariant-loop-row l =
    (length l.rest ≤ length l.body) × (walked (flat_map row_of l.rows) l.body ≡ behind (length l.body - length l.rest) (walked (flat_map row_of (drop l.row-index l.rows)) l.rest))
