-- The entries before i are moved on: of the new entry and the old ones behind it the first i are stored, and the next one is at hand.
-- Assumes nothing.
use Prim.Native.Nat.{◌-◌, ◌≤◌}
use mathlib.Core.List.{◌∷◌}
use mathlib.Core.Path.{◌≡◌}
use lib.ListN.{length, get_or, take, drop}
use lib.Seq.{sets}
use Rattle.input.proofs.errors.enter.Given as goal

abbrev pub invariant-loop-i : goal.invariant-loop-i
invariant-loop-i l =
    (l.i ≤ 8) × (length l.words ≡ length l.initial.words) × (l.words ≡ sets l.initial.words 653 (take l.i (l.initial.next ∷ drop 653 l.initial.words))) × (l.next ≡ get_or (l.initial.next ∷ drop 653 l.initial.words) l.i 0)

abbrev pub decreases-loop-i : goal.decreases-loop-i
decreases-loop-i l = 8 - l.i
