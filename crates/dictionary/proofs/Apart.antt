-- What a match on a number tells where no arm is taken.
-- Assumes nothing.
use mathlib.Core.Path.{◌≡◌}
use mathlib.Core.List.{List, [], ◌∷◌}
use Prim.Native.Nat.{ℕ}

-- arm by arm: x is none of the keys
abbrev pub apart_from : Type 0 → List ℕ → ℕ → Type 0
apart_from N [] x = N
apart_from N (k ∷ ks) x = apart_from (N × (x ≡ k → ⊥)) ks x

abbrev pub Apart : List ℕ → ℕ → Type 0
Apart ks x = apart_from Unit ks x

pub apart_first : (N : Type 0) (ks : List ℕ) (x : ℕ) → apart_from N ks x → N
apart_first N [] x a = a
apart_first N (k ∷ ks) x a = (apart_first (N × (x ≡ k → ⊥)) ks x a).0
