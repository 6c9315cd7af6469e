-- `changes::noting::note_all` meets its contract: the four stretches are the send order (`OrderLaws`).
-- Assumes nothing.
use mathlib.Core.Path.{◌∙◌}
use native.Mathlib.Omega.{arith}
use Rattle.lists.proofs.changes.NotingLaws.{fewer}
use Rattle.lists.proofs.changes.OrderLaws.{all_noted, all_further, begins, room_at_first, room_left}
use Rattle.lists.proofs.changes.noting.note_all.Goals as goal

pub note_stretch-first-requires : goal.note_stretch-first-requires
note_stretch-first-requires c =
    let p = c.requires in
    (omega arith, omega arith, begins.0, fewer (omega arith) (room_at_first p))

pub note_stretch-second-requires : goal.note_stretch-second-requires
note_stretch-second-requires c =
    let p = c.requires in
    (omega arith, omega arith, begins.1, fewer (omega arith) (room_left 0 567 44 c.note_stretch-first.ensures (room_at_first p)))

pub note_stretch-third-requires : goal.note_stretch-third-requires
note_stretch-third-requires c =
    let p = c.requires in
    let first = room_left 0 567 44 c.note_stretch-first.ensures (room_at_first p) in
    (omega arith, omega arith, begins.2, fewer (omega arith) (room_left 583 587 40 c.note_stretch-second.ensures first))

pub note_stretch-requires : goal.note_stretch-requires
note_stretch-requires c =
    let p = c.requires in
    let first = room_left 0 567 44 c.note_stretch-first.ensures (room_at_first p) in
    let second = room_left 583 587 40 c.note_stretch-second.ensures first in
    (omega arith, omega arith, begins.3, fewer (omega arith) (room_left 567 583 24 c.note_stretch-third.ensures second))

pub shape_of-notes : goal.shape_of-notes
shape_of-notes c = c.note_stretch.ensures.length_kept ∙ c.note_stretch-third.ensures.length_kept ∙ c.note_stretch-second.ensures.length_kept ∙ c.note_stretch-first.ensures.length_kept

pub returns : goal.returns
returns c =
    all_noted _ _ _ _ _ c.args.images.wanted_good
    (all_further c.note_stretch-first.ensures c.note_stretch-second.ensures c.note_stretch-third.ensures c.note_stretch.ensures)
