-- `writing::write_rows` meets its contract: what is left of the rows goes behind what is written (`PlacingLaws`).
-- Assumes nothing.
use native.Mathlib.Omega.{arith}
use Rattle.image.proofs.writing.PlacingLaws.{all_left, none_left, room_next, left_next, next_row, no_row}
use Rattle.image.proofs.writing.write_rows.Goals as goal

pub loop-row-init : goal.loop-row-init
loop-row-init c = all_left c.requires

pub write_row-front-requires : goal.write_row-front-requires
write_row-front-requires c =
    let m = c.loop-row in room_next m.invariant _ _ (next_row _ _ m.row-index (omega arith))

pub loop-row-preserved : goal.loop-row-preserved
loop-row-preserved c =
    let m = c.loop-row in left_next m.invariant _ _ (next_row _ _ m.row-index (omega arith)) c.write_row-front.ensures

pub shape_of-image : goal.shape_of-image
shape_of-image c = c.loop-row.invariant.long

pub returns : goal.returns
returns c = none_left c.loop-row.invariant (no_row _ c.loop-row.row-index (omega arith))
