-- Bytes stored one after the other, as far as the buffer reaches.
-- Assumes nothing.
use Prim.Native.Nat.{ℕ, suc, ◌+◌, ◌-◌, ◌<◌, ◌≤◌, min}
use mathlib.Core.List.{List, [], ◌∷◌}
use mathlib.Core.Path.{◌≡◌, refl, sym, ap, ◌∙◌}
use native.Mathlib.Numerals.{add-one}
use native.Mathlib.Omega.{arith, min_cases}
use lib.ListN.{length, take, drop, get_or, set, take-append-drop}
use lib.Seq.{sets, length-sets, set_out, take-suc, length-take-le, take-length}
use Rattle.octets.proofs.little.Parts.{sets_append}

-- one byte more of a piece
pub sets_next : (l : List ℕ) (at : ℕ) (piece : List ℕ) (k : ℕ) → k < length piece
    → set (sets l at (take k piece)) (at + k) (get_or piece k 0) ≡ sets l at (take (k + 1) piece)
sets_next l at piece k h =
    rw (add-one, take-suc piece k 0 h, sets_append (take k piece) (get_or piece k 0 ∷ []) l at, length-take-le k piece (omega arith))

-- past the buffer's end nothing is stored
pub sets_out : (l : List ℕ) (at : ℕ) (piece : List ℕ) → length l ≤ at → l ≡ sets l at piece
sets_out l at [] h = refl
sets_out l at (x ∷ piece) h = rw (set_out l at x h) (sets_out l (suc at) piece (omega arith))

-- what has room is all that is stored
pub sets_room : (l : List ℕ) (at : ℕ) (piece : List ℕ) → sets l at (take (min (length piece) (length l - at)) piece) ≡ sets l at piece
sets_room l at piece = min_cases (length piece) (length l - at) _ (λ p e. rw (e, take-length piece)) (λ q e. rw e (front (length l - at) q (omega arith)))
  where
    front : (k : ℕ) → k ≤ length piece → length l ≤ at + k → sets l at (take k piece) ≡ sets l at piece
    front k h past =
        let long = length-sets l at (take k piece) in
        let rest : length (sets l at (take k piece)) ≤ at + k = omega arith in
        sets_out (sets l at (take k piece)) (at + k) (drop k piece) rest
        ∙ sym (ap (sets l at) (sym (take-append-drop k piece)) ∙ sets_append (take k piece) (drop k piece) l at ∙ rw (length-take-le k piece h))
