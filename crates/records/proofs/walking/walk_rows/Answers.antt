-- `walking::walk_rows` meets its contract: what is left of the rows is walked over what is left of the bytes (`WalkLaws`).
-- Assumes nothing.
use mathlib.Core.Path.{refl, sym, ◌∙◌}
use native.Mathlib.Omega.{arith}
use mathlib.Core.List.{[]}
use Rattle.records.specs.Rows.{row_of}
use Rattle.records.proofs.WalkLaws.{then_taken, rows_start, rows_refused, rows_on, rows_done}
use Rattle.records.proofs.walking.walk_rows.Goals as goal

pub loop-row-init : goal.loop-row-init
loop-row-init c = (omega arith, rows_start _ _ _ refl)

pub returns-in_default : goal.returns-in_default
returns-in_default c =
    let s = c.args in let m = c.loop-row in rows_refused s.rows.now m.row-index _ s.body.now m.rest.now m.invariant.1 _ (omega arith) c.in_default.is c.take_row-records.ensures

pub slice_bounds-rest-count : goal.slice_bounds-rest-count
slice_bounds-rest-count c =
    let taken = then_taken (row_of _) [] _ (sym c.take_row-records.ensures ∙ c.in-Ok.is) in omega arith

pub slice_bounds-rest-start : goal.slice_bounds-rest-start
slice_bounds-rest-start c =
    let taken = then_taken (row_of _) [] _ (sym c.take_row-records.ensures ∙ c.in-Ok.is) in omega arith

pub loop-row-preserved : goal.loop-row-preserved
loop-row-preserved c =
    let s = c.args in let m = c.loop-row in rows_on s.rows.now m.row-index _ s.body.now m.rest.now m.invariant.1 _ (omega arith) m.invariant.0 (sym c.take_row-records.ensures ∙ c.in-Ok.is)

pub returns : goal.returns
returns c = let s = c.args in let m = c.loop-row in rows_done s.rows.now m.row-index _ s.body.now m.rest.now m.invariant.1 (omega arith)
