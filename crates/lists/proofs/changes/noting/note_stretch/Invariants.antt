-- `changes::noting::note_stretch` meets its contract (`StretchLaws`).
-- Assumes nothing.
use Rattle.lists.proofs.changes.StretchLaws.{Way}
use Rattle.lists.proofs.changes.noting.note_stretch.Given as goal

abbrev pub invariant-loop : goal.invariant-loop
invariant-loop l = Way l.images.current.now l.images.wanted.now l.initial.notes l.from l.to l.initial.n l.notes l.n l.counter l.place
