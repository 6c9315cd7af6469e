-- `writing::write_rows` meets its contract: what is left of the rows goes behind what is written (`PlacingLaws`).
-- Assumes nothing.
use mathlib.Core.List.{flat_map}
use lib.ListN.{drop}
use Rattle.records.specs.Rows.{row_of}
use Rattle.image.proofs.writing.PlacingLaws.{Left}
use Rattle.image.proofs.writing.write_rows.Given as goal

abbrev pub invariant-loop-row : goal.invariant-loop-row
invariant-loop-row l = Left (flat_map row_of l.rows) (flat_map row_of (drop l.row-index l.rows)) l.words l.initial.front l.initial.image l.front l.image
