-- Sixteen digits, two a turn.
-- Assumes nothing.
use Prim.Native.Nat.{◌*◌}
use mathlib.Core.Path.{◌≡◌}
use lib.ListN.{length, take, drop}
use Rattle.printer.specs.Reading.{fields, asked_frame}
use Rattle.printer.proofs.Hexes.{framed_from}
use Rattle.printer.proofs.reading.frame.Given as goal

abbrev pub invariant-loop-k : goal.invariant-loop-k
invariant-loop-k l = (length l.bytes ≡ 8) × (asked_frame (fields l.digits) ≡ framed_from (take l.k l.bytes) (drop (2 * l.k) l.digits))
