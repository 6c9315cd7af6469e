-- `reading::order::in_order` meets its contract: the runs are the links between the entries, by their places in an image, by computing (`PlaceLaws`),
-- and what is left of them decides (`OrderLaws`).
-- Assumes nothing.
use native.Mathlib.Omega.{arith}
use mathlib.Core.Path.{refl, sym}
use mathlib.Core.Bool.{false}
use mathlib.Core.List.{flat_map}
use Rattle.roles.proofs.RoleLaws.{run, runs}
use Rattle.dictionary.specs.Rows.{width}
use Rattle.records.specs.Layout.{listed, size, offset}
use Rattle.image.specs.declared.reading.order.Run.{Run}
use Rattle.image.specs.Places.{run_from, run_of}
use Rattle.image.proofs.reading.OrderLaws.{runs_broken, runs_on, runs_done}
use Rattle.image.proofs.reading.PlaceLaws.{place, places, ordered_by_places}
use Rattle.image.proofs.reading.order.in_order.Goals as goal

abbrev none : Run
none = record { lower = 0; upper = 0; pairs = 0; strict = false }

pub loop-run-init : goal.loop-run-init
unfolding run_of run_from flat_map runs run places place offset listed size width
loop-run-init c = sym (ordered_by_places _ c.requires _ refl)

pub returns-then-not-run_rises : goal.returns-then-not-run_rises
returns-then-not-run_rises c =
    let m = c.loop-run in
    runs_broken _ _ none m.run-index m.invariant (omega arith) c.run_rises.ensures c.if-not-run_rises.true

pub loop-run-preserved : goal.loop-run-preserved
loop-run-preserved c =
    let m = c.loop-run in
    runs_on _ _ none m.run-index m.invariant (omega arith) c.run_rises.ensures c.if-not-run_rises.false

pub returns : goal.returns
returns c = let m = c.loop-run in runs_done _ _ none m.run-index m.invariant (omega arith)
