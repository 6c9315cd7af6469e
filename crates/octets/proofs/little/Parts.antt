-- A few bytes in the middle of a list, one by one or one after the other.
-- Assumes nothing.
use mathlib.Core.Path.{◌≡◌, refl, sym, ap, ◌∙◌}
use mathlib.Core.List.{List, [], ◌∷◌, ◌++◌}
use Prim.Native.Nat.{ℕ, zero, suc, ◌+◌, ◌<◌, ◌≤◌}
use native.Mathlib.Nat.{add-zero}
use native.Mathlib.Omega.{arith}
use lib.ListN.{length, get_or, set, take, drop, drop_of_length-le}
use lib.Seq.{sets, drop-cons}
use Rattle.std.specs.List.{slice_range}
use Rattle.std.proofs.lemmas.Slice.{between_to_end}
use Rattle.octets.specs.Little.{little}

-- the bytes from a place on, so many, each by its place
unfoldable pub placed : List ℕ → ℕ → ℕ → List ℕ
placed l i zero = []
placed l i (suc n) = get_or l i 0 ∷ placed l (suc i) n

pub part : (l : List ℕ) (n i : ℕ) → i + n ≤ length l → take n (drop i l) ≡ placed l i n
unfolding placed
part l zero i h = refl
part l (suc n) i h =
    ap (take (suc n)) (drop-cons l i 0 (omega arith)) ∙ ap (λ (m : List ℕ). get_or l i 0 ∷ m) (part l n (suc i) (omega arith))

-- bytes stored behind bytes
pub sets_append : (a b l : List ℕ) (i : ℕ) → sets l i (a ++ b) ≡ sets (sets l i a) (i + length a) b
sets_append [] b l i = ap (λ (n : ℕ). sets l n b) (sym (add-zero i))
sets_append (x ∷ a) b l i =
    sets_append a b (set l i x) (suc i) ∙ ap (λ (n : ℕ). sets (sets (set l i x) (suc i) a) n b) (omega arith)

-- ---- the number that bytes at a place hold

-- past the end there is none
pub none_past : (l : List ℕ) (at n : ℕ) → length l ≤ at → 0 ≡ little (take n (drop at l))
unfolding little
none_past l at zero h = refl
none_past l at (suc n) h = rw (drop_of_length-le l h)

-- read off the rest of the bytes
pub from_rest : (l : List ℕ) (at n : ℕ) {rest : List ℕ} {v : ℕ} → rest ≡ slice_range l at (length l) → v ≡ little (take n rest) → v ≡ little (take n (drop at l))
from_rest l at n e told = told ∙ ap (λ (m : List ℕ). little (take n m)) (e ∙ between_to_end l at (length l) (omega arith))

-- fewer bytes than are asked for: those that are missing count as 0
pub one_of_two : (m : List ℕ) → 1 ≤ length m → length m < 2 → little (get_or m 0 0 ∷ 0 ∷ []) ≡ little (take 2 m)
unfolding little
one_of_two [] h k = omega arith
one_of_two (a ∷ []) h k = refl
one_of_two (a ∷ b ∷ m) h k = omega arith

pub one_of_four : (m : List ℕ) → 1 ≤ length m → length m < 2 → little (get_or m 0 0 ∷ 0 ∷ 0 ∷ 0 ∷ []) ≡ little (take 4 m)
unfolding little
one_of_four [] h k = omega arith
one_of_four (a ∷ []) h k = refl
one_of_four (a ∷ b ∷ m) h k = omega arith

pub two_of_four : (m : List ℕ) → 2 ≤ length m → length m < 3 → little (get_or m 0 0 ∷ get_or m 1 0 ∷ 0 ∷ 0 ∷ []) ≡ little (take 4 m)
unfolding little
two_of_four [] h k = omega arith
two_of_four (a ∷ []) h k = omega arith
two_of_four (a ∷ b ∷ []) h k = refl
two_of_four (a ∷ b ∷ c ∷ m) h k = omega arith

pub three_of_four : (m : List ℕ) → 3 ≤ length m → length m < 4 → little (get_or m 0 0 ∷ get_or m 1 0 ∷ get_or m 2 0 ∷ 0 ∷ []) ≡ little (take 4 m)
unfolding little
three_of_four [] h k = omega arith
three_of_four (a ∷ []) h k = omega arith
three_of_four (a ∷ b ∷ []) h k = omega arith
three_of_four (a ∷ b ∷ c ∷ []) h k = refl
three_of_four (a ∷ b ∷ c ∷ d ∷ m) h k = omega arith
