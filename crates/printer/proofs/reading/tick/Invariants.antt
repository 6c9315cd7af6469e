-- A field a turn.
-- Assumes nothing.
use lib.ListN.{length}
use Rattle.printer.specs.Reading.{fields}
use Rattle.printer.proofs.Fields.{Read}
use Rattle.printer.proofs.reading.tick.Given as goal

abbrev pub invariant-loop-field : goal.invariant-loop-field
invariant-loop-field l = Read l.samples l.count (length l.yielded) (fields l.rest)
