-- The test `below` and the orders of ℤ, each from the other.
-- Assumes nothing.
use mathlib.Core.Bool.{Bool, true, false, not}
use mathlib.Core.Path.{◌≡◌, refl, sym, subst}
use lib.Dec.{T}
use lib.IntN.{ℤ}
use lib.Signed.{lt_z, ◌≤ℤ◌, ◌<ℤ◌, lt_z_no, clash_ℤ}
use Rattle.numbers.specs.Order.{below}

holds : (t : Bool) → T t → t ≡ true
holds true h = refl
holds false h = absurd h

pub lt_is_below : {a b : ℤ} → a <ℤ b → below a b ≡ true
unfolding below
lt_is_below {a} {b} h = holds (lt_z a b) h.lt

pub below_is_lt : (a b : ℤ) → below a b ≡ true → a <ℤ b
unfolding below
below_is_lt a b e = record { lt = subst T (sym e) tt }

pub not_below_is_le : (a b : ℤ) → below a b ≡ false → b ≤ℤ a
unfolding below
not_below_is_le a b e = lt_z_no (subst (λ (t : Bool). T (not t)) (sym e) tt)

fails : (t : Bool) → (T t → ⊥) → t ≡ false
fails true h = absurd (h tt)
fails false h = refl

pub le_is_not_below : {a b : ℤ} → b ≤ℤ a → below a b ≡ false
unfolding below
le_is_not_below {a} {b} h = fails (lt_z a b) (λ t. clash_ℤ (record { lt = t }) h)
