-- `lists::copying::put_four` meets its contract (`CopyingLaws`).
-- Assumes nothing.
use native.Mathlib.Omega.{arith}
use lib.ListN.{length-set}
use Rattle.lists.proofs.CopyingLaws.{four_put}
use Rattle.lists.proofs.copying.put_four.Goals as goal

pub bounds-list-at-2 : goal.bounds-list-at-2
bounds-list-at-2 c = simp length-set (omega arith)

pub bounds-list-at-3 : goal.bounds-list-at-3
bounds-list-at-3 c = simp length-set (omega arith)

pub bounds-list-at-4 : goal.bounds-list-at-4
bounds-list-at-4 c = simp length-set (omega arith)

pub returns : goal.returns
returns c =
    four_put c.args.list.now c.args.wanted.now c.args.at c.args.place c.requires.1
