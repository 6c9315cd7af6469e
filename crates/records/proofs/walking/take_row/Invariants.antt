-- `walking::take_row` meets its contract: what is left of the row is walked over what is left of the bytes (`WalkLaws`).
-- Assumes nothing.
use mathlib.Core.Path.{◌≡◌}
use Prim.Native.Nat.{suc, ◌-◌, ◌≤◌}
use lib.ListN.{length}
use Rattle.records.specs.Rows.{row_of, row_from}
use Rattle.records.specs.Walk.{walked, behind}
use Rattle.records.proofs.walking.take_row.Given as goal

abbrev pub invariant-loop-sub : goal.invariant-loop-sub
invariant-loop-sub l =
    (length l.rest ≤ length l.body) × (walked (row_of l.row) l.body ≡ behind (length l.body - length l.rest) (walked (row_from l.row l.sub (suc l.sub-end - l.sub)) l.rest))
