-- `changes::noting::put_note` meets its contract (`NotingLaws`).
-- Assumes nothing.
use native.Mathlib.Omega.{arith}
use Rattle.lists.proofs.changes.NotingLaws.{put_before, put_behind}
use Rattle.lists.proofs.changes.noting.put_note.Goals as goal

pub offset_bounds-notes-next : goal.offset_bounds-notes-next
offset_bounds-notes-next c = let r = c.requires.0 in let b = r.behind in let s = r.sorted in omega arith

pub bounds-notes-next : goal.bounds-notes-next
bounds-notes-next c = let r = c.requires.0 in let b = r.behind in let s = r.sorted in omega arith

pub returns-then-up : goal.returns-then-up
returns-then-up c = put_before c.if-up.true

pub returns : goal.returns
returns c = put_behind c.if-up.false
