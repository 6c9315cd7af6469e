-- `writing::placing::write_row` meets its contract: what is left of the row goes behind what is written (`PlacingLaws`).
-- Assumes nothing.
use native.Mathlib.Omega.{arith}
use Rattle.records.specs.Rows.{row_of}
use Rattle.image.proofs.writing.PlacingLaws.{all_left, none_left, room_next, left_next, next_sub, no_sub}
use Rattle.image.proofs.writing.placing.write_row.Goals as goal

pub loop-sub-init : goal.loop-sub-init
unfolding row_of
loop-sub-init c = all_left c.requires

pub write_record-front-requires : goal.write_record-front-requires
write_record-front-requires c =
    let m = c.loop-sub in room_next m.invariant _ _ (next_sub _ m.sub _ c.loop-sub-test.true)

pub loop-sub-preserved : goal.loop-sub-preserved
loop-sub-preserved c =
    let m = c.loop-sub in left_next m.invariant _ _ (next_sub _ m.sub _ c.loop-sub-test.true) c.write_record-front.ensures

pub shape_of-image : goal.shape_of-image
shape_of-image c = c.loop-sub.invariant.long

pub returns : goal.returns
returns c = none_left c.loop-sub.invariant (no_sub _ _ _ c.loop-sub-test.false)

pub returns-2 : goal.returns-2
returns-2 c =
    let m = c.loop-sub in
    none_left (left_next m.invariant _ _ (next_sub _ m.sub _ c.loop-sub-test.true) c.write_record-front.ensures) (no_sub _ _ _ (omega arith))
