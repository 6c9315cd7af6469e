-- `writing::placing::write_row` meets its contract: what is left of the row goes behind what is written (`PlacingLaws`).
-- Assumes nothing.
use Prim.Native.Nat.{suc, ◌-◌}
use Rattle.records.specs.Rows.{row_of, row_from}
use Rattle.image.proofs.writing.PlacingLaws.{Left}
use Rattle.image.proofs.writing.placing.write_row.Given as goal

abbrev pub invariant-loop-sub : goal.invariant-loop-sub
invariant-loop-sub l = Left (row_of l.row) (row_from l.row l.sub (suc l.sub-end - l.sub)) l.words l.initial.front l.initial.image l.front l.image
