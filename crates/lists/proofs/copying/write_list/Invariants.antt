-- `lists::copying::write_list` meets its contract (`CopyingLaws`).
-- Assumes nothing.
use Rattle.lists.proofs.CopyingLaws.{Left}
use Rattle.lists.proofs.copying.write_list.Given as goal

abbrev pub invariant-loop-place : goal.invariant-loop-place
invariant-loop-place l = Left l.wanted l.places l.initial.list l.list l.at l.place-index
