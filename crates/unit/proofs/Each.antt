-- Blocks 1 to n, one more at a time, as a loop does them.
-- Assumes nothing.
use Prim.Native.Nat.{ℕ, zero, suc, ◌+◌, ◌<◌}
use mathlib.Core.List.{List}
use mathlib.Core.Path.{◌≡◌, ◌∙◌, ap}
use native.Mathlib.Numerals.{add-one}
use native.Mathlib.Omega.{arith}
use Rattle.unit.specs.Each.{each}

module _ (turn : ℕ → List ℕ → List ℕ) (unit : List ℕ) where
  pub more : (k : ℕ) → each (k + 1) turn unit ≡ turn (k + 1) (each k turn unit)
  unfolding each
  more k = rw (add-one k)

  pub done : {now : List ℕ} (k n : ℕ) → k ≡ n → now ≡ each k turn unit → now ≡ each n turn unit
  done k n e h = h ∙ ap (λ (j : ℕ). each j turn unit) e

-- a relation of the unit before and after that every turn keeps, all turns keep
module _ (R : List ℕ → List ℕ → Type 0) (same : (u : List ℕ) → R u u) (joined : (u v w : List ℕ) → R u v → R v w → R u w) where
  pub each_keeps : (n : ℕ) (turn : ℕ → List ℕ → List ℕ) → ((k : ℕ) → k < n → (u : List ℕ) → R u (turn (k + 1) u)) → (u : List ℕ) → R u (each n turn u)
  unfolding each
  each_keeps zero turn keeps u = same u
  each_keeps (suc n) turn keeps u =
      joined u (each n turn u) (turn (suc n) (each n turn u))
      (each_keeps n turn (λ k h v. keeps k (omega arith) v) u)
      (rw (add-one n) at (keeps n (omega arith) (each n turn u)))
