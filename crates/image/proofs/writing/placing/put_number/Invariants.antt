-- `writing::placing::put_number` meets its contract: what is left of the bytes goes behind what is stored (`PlacingLaws`).
-- Assumes nothing.
use mathlib.Core.Path.{◌≡◌}
use Prim.Native.Nat.{◌+◌, ◌-◌, ◌≤◌}
use lib.ListN.{length}
use lib.Seq.{sets}
use Rattle.octets.specs.Little.{bytes}
use Rattle.image.proofs.writing.placing.put_number.Given as goal

abbrev pub invariant-loop-place : goal.invariant-loop-place
invariant-loop-place l =
    (l.place ≤ l.at + l.size) × ((length l.image ≡ length l.initial.image) × (sets l.image l.place (bytes (l.at + l.size - l.place) l.rest) ≡ sets l.initial.image l.at (bytes l.size l.number)))
