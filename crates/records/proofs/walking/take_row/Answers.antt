-- `walking::take_row` meets its contract: what is left of the row is walked over what is left of the bytes (`WalkLaws`).
-- Assumes nothing.
use mathlib.Core.Path.{sym, ◌∙◌}
use native.Mathlib.Omega.{arith}
use Rattle.records.proofs.WalkLaws.{whole_taken, row_start, row_refused, row_on, row_done}
use Prim.Native.Nat.{◌+◌}
use Rattle.records.proofs.walking.take_row.Goals as goal
use Rattle.records.proofs.walking.take_row.Goals.{else-loop-sub-test, then-loop-sub-test+in-Ok+else-sub-sub-end}

pub loop-sub-init : goal.loop-sub-init
loop-sub-init c = (omega arith, row_start _ _)

pub returns-in_default : goal.returns-in_default
returns-in_default c =
    let m = c.loop-sub in row_refused _ _ _ _ m.rest.now m.invariant.1 c.loop-sub-test.true c.in_default.is c.take_record-record.ensures

pub slice_bounds-rest-count : goal.slice_bounds-rest-count
slice_bounds-rest-count c =
    let whole = whole_taken _ _ (sym c.take_record-record.ensures ∙ c.in-Ok.is) in omega arith

pub slice_bounds-rest-start : goal.slice_bounds-rest-start
slice_bounds-rest-start c =
    let whole = whole_taken _ _ (sym c.take_record-record.ensures ∙ c.in-Ok.is) in omega arith

pub loop-sub-preserved : goal.loop-sub-preserved
loop-sub-preserved c =
    let m = c.loop-sub in row_on _ _ _ _ m.rest.now m.invariant.1 c.loop-sub-test.true m.invariant.0 (sym c.take_record-record.ensures ∙ c.in-Ok.is)

pub returns : goal.returns
returns c =
    let m = c.loop-sub in
    elim c.loop-sub-test.branch [
      | else-loop-sub-test w ↦ rw w.rest-is (row_done _ _ _ _ m.rest.now m.invariant.1 w.loop-sub-test.false)
      | then-loop-sub-test+in-Ok+else-sub-sub-end w ↦ rw w.rest-is (row_done _ _ (m.sub + 1) _ _ (row_on _ _ _ _ m.rest.now m.invariant.1 w.loop-sub-test.true m.invariant.0 (sym w.take_record-record.ensures ∙ w.in-Ok.is)).1 (omega arith))
    ]
