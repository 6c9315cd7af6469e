-- `lists::copying::write_list` meets its contract (`CopyingLaws`).
-- Assumes nothing.
use mathlib.Core.Path.{ap, ◌∙◌}
use native.Mathlib.Omega.{arith}
use lib.ListN.{length}
use lib.Seq.{length-sets}
use Rattle.octets.specs.Little.{bytes}
use Rattle.lists.proofs.CopyingLaws.{counted, behind_count, room_here, onward, all_copied}
use Rattle.lists.proofs.copying.write_list.Goals as goal

pub put_count-requires : goal.put_count-requires
put_count-requires c = let room = c.requires.1 in omega arith

pub loop-place-init : goal.loop-place-init
loop-place-init c =
    counted c.args.wanted.now c.args.places.now c.args.list.now c.put_count.ensures c.requires.1

pub copy_record-at-requires : goal.copy_record-at-requires
copy_record-at-requires c =
    let p = c.put_count in
    let m = c.loop-place in
    (c.requires.0.each m.place-index (omega arith), room_here c.args.wanted.now c.args.places.now p.new.list m.list m.at m.place-index m.invariant (omega arith))

pub loop-place-preserved : goal.loop-place-preserved
loop-place-preserved c =
    let p = c.put_count in
    let m = c.loop-place in
    onward c.args.wanted.now c.args.places.now p.new.list m.list m.at m.place-index m.invariant (omega arith) c.copy_record-at.ensures.0 c.copy_record-at.ensures.1

pub shape_of-list : goal.shape_of-list
shape_of-list c =
    let p = c.put_count in
    let s = c.args in
    c.loop-place.invariant.long ∙ ap length p.ensures ∙ length-sets s.list.now 0 (bytes 4 (length s.places.now))

pub returns : goal.returns
returns c =
    let p = c.put_count in
    let m = c.loop-place in
    all_copied c.args.wanted.now c.args.places.now p.new.list m.list m.at m.place-index m.invariant (omega arith)
    ∙ behind_count c.args.wanted.now c.args.places.now c.args.list.now p.ensures
