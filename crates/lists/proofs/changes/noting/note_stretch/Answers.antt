-- `changes::noting::note_stretch` meets its contract (`StretchLaws`).
-- Assumes nothing.
use native.Mathlib.Omega.{arith}
use Rattle.lists.proofs.changes.StretchLaws.{way_begun, way_done, standing, free, both, way_on}
use Rattle.lists.proofs.changes.noting.note_stretch.Goals as goal

pub loop-init : goal.loop-init
loop-init c = let p = c.requires in way_begun p.0 p.2

pub size_at-size-requires : goal.size_at-size-requires
size_at-size-requires c =
    let m = c.loop in
    let p = c.requires in
    standing c.args.images.current.now c.args.images.wanted.now c.args.notes.now c.args.from c.args.to c.args.had m.notes m.n m.counter m.place c.args.images.current_good c.args.images.wanted_good p.1 p.3 m.invariant c.loop-test.true

pub note_one-n-requires : goal.note_one-n-requires
note_one-n-requires c =
    let m = c.loop in
    let p = c.requires in
    (both c.args.images.current.now c.args.images.wanted.now c.args.notes.now c.args.from c.args.to c.args.had m.notes m.n m.counter m.place c.args.images.current_good c.args.images.wanted_good p.1 p.3 m.invariant c.loop-test.true c.size_at-size.ensures, free c.args.images.current.now c.args.images.wanted.now c.args.notes.now c.args.from c.args.to c.args.had m.notes m.n m.counter m.place c.args.images.current_good c.args.images.wanted_good p.1 p.3 m.invariant c.loop-test.true)

pub overflow_add-place : goal.overflow_add-place
overflow_add-place c =
    let m = c.loop in
    let p = c.requires in
    let w = both c.args.images.current.now c.args.images.wanted.now c.args.notes.now c.args.from c.args.to c.args.had m.notes m.n m.counter m.place c.args.images.current_good c.args.images.wanted_good p.1 p.3 m.invariant c.loop-test.true c.size_at-size.ensures in let small = w.first.small in omega (arith, w.size_first)

pub overflow_add-place-in-loop : goal.overflow_add-place-in-loop
overflow_add-place-in-loop c =
    let m = c.loop in
    let p = c.requires in
    let w = both c.args.images.current.now c.args.images.wanted.now c.args.notes.now c.args.from c.args.to c.args.had m.notes m.n m.counter m.place c.args.images.current_good c.args.images.wanted_good p.1 p.3 m.invariant c.loop-test.true c.size_at-size.ensures in let small = w.first.small in let early = w.early in omega (arith, w.size_first)

pub loop-preserved : goal.loop-preserved
loop-preserved c =
    let m = c.loop in
    let p = c.requires in
    way_on c.args.images.current.now c.args.images.wanted.now c.args.notes.now c.args.from c.args.to c.args.had m.notes m.n m.counter m.place c.args.images.current_good c.args.images.wanted_good p.1 p.3 m.invariant c.loop-test.true c.size_at-size.ensures c.note_one-n.ensures

pub shape_of-notes : goal.shape_of-notes
shape_of-notes c = c.loop.invariant.done.length_kept

pub returns : goal.returns
returns c = way_done c.loop.invariant c.loop-test.false
