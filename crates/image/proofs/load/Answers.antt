-- `image::load` meets its contract: after each record one word more is the image's (`LoadLaws`).
-- Assumes nothing.
use mathlib.Core.Path.{refl, ◌∙◌}
use native.Mathlib.Omega.{arith}
use lib.ListN.{length-set}
use Rattle.dictionary.specs.Names.{configured}
use Rattle.image.proofs.reading.Acceptance.{accepted}
use Rattle.image.proofs.LoadLaws.{begun, headed, small, long, next, ended}
use Rattle.image.proofs.load.Goals as goal

pub slice_bounds-rest-count : goal.slice_bounds-rest-count
slice_bounds-rest-count c = let long = (accepted _ c.requires.0).long in omega arith

pub slice_bounds-rest-start : goal.slice_bounds-rest-start
slice_bounds-rest-start c = let long = (accepted _ c.requires.0).long in omega arith

pub loop-slot-init : goal.loop-slot-init
loop-slot-init c = (begun _ _ (accepted _ c.requires.0), refl)

pub bounds-rest-3 : goal.bounds-rest-3
bounds-rest-3 c =
    let s = c.args in let m = c.loop-slot in let h = headed s.image.now s.unit.now m.unit m.rest.now m.slot m.invariant.0 c.loop-slot-test.true in omega arith

pub bounds-unit-slot : goal.bounds-unit-slot
unfolding configured
bounds-unit-slot c =
    let e = c.requires in omega (arith, e.1, c.loop-slot.invariant.1)

pub overflow_cast-rest : goal.overflow_cast-rest
overflow_cast-rest c =
    let s = c.args in let m = c.loop-slot in let b = small s.image.now s.unit.now m.unit m.rest.now m.slot m.invariant.0 c.loop-slot-test.true in omega arith

pub overflow_add-rest : goal.overflow_add-rest
overflow_add-rest c =
    let s = c.args in let m = c.loop-slot in let b = small s.image.now s.unit.now m.unit m.rest.now m.slot m.invariant.0 c.loop-slot-test.true in omega arith

pub slice_bounds-rest-count-in-loop-slot : goal.slice_bounds-rest-count-in-loop-slot
slice_bounds-rest-count-in-loop-slot c =
    let s = c.args in let m = c.loop-slot in let l = long s.image.now s.unit.now m.unit m.rest.now m.slot m.invariant.0 c.loop-slot-test.true refl in omega arith

pub slice_bounds-rest-start-in-loop-slot : goal.slice_bounds-rest-start-in-loop-slot
slice_bounds-rest-start-in-loop-slot c =
    let s = c.args in let m = c.loop-slot in let l = long s.image.now s.unit.now m.unit m.rest.now m.slot m.invariant.0 c.loop-slot-test.true refl in omega arith

pub loop-slot-preserved : goal.loop-slot-preserved
unfolding configured
loop-slot-preserved c =
    let s = c.args in let m = c.loop-slot in let e = c.requires in (next s.image.now s.unit.now m.unit m.rest.now m.slot m.invariant.0 c.loop-slot-test.true refl c.data_in.ensures (omega (arith, e.1)), length-set m.unit m.slot _ ∙ m.invariant.1)

pub shape_of-unit : goal.shape_of-unit
shape_of-unit c = c.loop-slot.invariant.1

pub returns : goal.returns
returns c =
    let s = c.args in let m = c.loop-slot in ended s.image.now s.unit.now m.unit m.rest.now m.slot m.invariant.0 c.loop-slot-test.false
