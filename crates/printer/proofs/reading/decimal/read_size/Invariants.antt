-- Digits are read from left to right.
-- Assumes nothing.
use Prim.Native.Nat.{◌<◌, ◌^◌}
use mathlib.Core.Path.{◌≡◌}
use lib.ListN.{drop}
use Rattle.printer.specs.Steps.{size_read}
use Rattle.printer.proofs.Decimals.{sized_from}
use Rattle.printer.proofs.reading.decimal.read_size.Given as goal

abbrev pub invariant-loop-b : goal.invariant-loop-b
invariant-loop-b l = (l.n < 10 ^ l.b-index) × (size_read l.digits l.limit ≡ sized_from l.n (drop l.b-index l.digits) l.limit)
