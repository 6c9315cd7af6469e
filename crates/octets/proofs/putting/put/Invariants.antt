-- A piece copied byte by byte, as far as it has room (`Room`).
-- Assumes nothing.
use Prim.Native.Nat.{◌≤◌}
use mathlib.Core.Path.{◌≡◌}
use lib.ListN.{length, take}
use lib.Seq.{sets}
use Rattle.octets.proofs.putting.put.Given as goal

abbrev pub invariant-loop-k : goal.invariant-loop-k
invariant-loop-k l = (l.k ≤ l.count) × (l.buffer ≡ sets l.initial.buffer l.at (take l.k l.piece)) × (length l.buffer ≡ length l.initial.buffer)
