-- A whole number as the difference of two natural ones: `Diff z a b` says that z is a - b. Sums, products and orders of ℤ become
-- equations and orders of ℕ so, which linear arithmetic reads; `same` comes back.
-- Assumes nothing.
use Prim.Native.Nat.{ℕ, zero, suc, ◌+◌, ◌-◌, ◌*◌, ◌<◌, ◌≤◌}
use mathlib.Core.Bool.{Bool, true, false, cond}
use mathlib.Core.Path.{◌≡◌, refl, ap, sym, ◌∙◌}
use native.Mathlib.Nat.{mul-add}
use native.Mathlib.Omega.{arith}
use borrow.Author.Tests.{ltb-true, ltb-false, lt-ltb, le-ltb}
use lib.Dec.{ltb, le→leb, leb→le}
use lib.IntN.{ℤ, pos, negsuc, neg_ℤ, sub_ℕ, ◌+ℤ◌, ◌-ℤ◌, ◌*ℤ◌}
use lib.Signed.{◌≤ℤ◌}
use Rattle.numbers.specs.Order.{below}

-- a is b and z more, where z is not negative; else b is a and -z more
abbrev pub Apart : ℤ → ℕ → ℕ → Type 0
Apart (pos k) a b = a ≡ b + k
Apart (negsuc k) a b = a + suc k ≡ b

pub record Diff (z : ℤ) (a b : ℕ) : Type 0 where
  pub is : Apart z a b

-- the same number by another pair
pub shift : {z : ℤ} {a b c d : ℕ} → Diff z a b → a + d ≡ c + b → Diff z c d
shift {z = pos k} p e = record { is = omega arith }
shift {z = negsuc k} p e = record { is = omega arith }

-- two numbers that are one difference
pub same : {y z : ℤ} {a b c d : ℕ} → Diff y a b → Diff z c d → a + d ≡ c + b → y ≡ z
same {y = pos k} {z = pos l} p q e = ap pos (omega arith)
same {y = pos k} {z = negsuc l} p q e = absurd (omega arith)
same {y = negsuc k} {z = pos l} p q e = absurd (omega arith)
same {y = negsuc k} {z = negsuc l} p q e = ap negsuc (omega arith)

pub whole : (n : ℕ) → Diff (pos n) n 0
whole n = record { is = omega arith }

-- ---- the operations
differs : (a b : ℕ) (t : Bool) → ltb a b ≡ t → Diff (cond t (negsuc (b - suc a)) (pos (a - b))) a b
differs a b true e = let h = ltb-true a b e in record { is = omega arith }
differs a b false e = let h = ltb-false a b e in record { is = omega arith }

pub subℕ_is : (a b : ℕ) → Diff (sub_ℕ a b) a b
subℕ_is a b = differs a b (ltb a b) refl

pub plus : {y z : ℤ} {a b c d : ℕ} → Diff y a b → Diff z c d → Diff (y +ℤ z) (a + c) (b + d)
plus {y = pos k} {z = pos l} p q = record { is = omega arith }
plus {y = pos k} {z = negsuc l} p q = shift (subℕ_is k (suc l)) (omega arith)
plus {y = negsuc k} {z = pos l} p q = shift (subℕ_is l (suc k)) (omega arith)
plus {y = negsuc k} {z = negsuc l} p q = record { is = omega arith }

pub minus : {z : ℤ} {a b : ℕ} → Diff z a b → Diff (neg_ℤ z) b a
minus {z = pos zero} p = record { is = omega arith }
minus {z = pos (suc k)} p = record { is = omega arith }
minus {z = negsuc k} p = record { is = omega arith }

pub less : {y z : ℤ} {a b c d : ℕ} → Diff y a b → Diff z c d → Diff (y -ℤ z) (a + d) (b + c)
less p q = plus p (minus q)

-- two natural numbers taken from each other
pub lowered : (a b : ℕ) → Diff (pos a -ℤ pos b) a b
lowered a b = shift (less (whole a) (whole b)) (omega arith)

pub counts : {z : ℤ} {a b : ℕ} → Diff z a b → pos a -ℤ pos b ≡ z
counts {a = a} {b = b} p = same (lowered a b) p refl

pub times : (k : ℕ) {z : ℤ} {a b : ℕ} → Diff z a b → Diff (pos k *ℤ z) (k * a) (k * b)
times k {z = pos m} {b = b} p = record { is = ap (λ (n : ℕ). k * n) p.is ∙ mul-add k b m }
times k {z = negsuc m} {a = a} {b = b} p =
    let e : k * a + k * suc m ≡ k * b = sym (mul-add k a (suc m)) ∙ ap (λ (n : ℕ). k * n) p.is in
    shift (minus (whole (k * suc m))) (omega arith)

-- every number is such a difference
abbrev pub plus_part : ℤ → ℕ
plus_part (pos k) = k
plus_part (negsuc k) = 0

abbrev pub minus_part : ℤ → ℕ
minus_part (pos k) = 0
minus_part (negsuc k) = suc k

pub parts : (z : ℤ) → Diff z (plus_part z) (minus_part z)
parts (pos k) = record { is = omega arith }
parts (negsuc k) = record { is = omega arith }

-- a difference that is not negative
pub natural : {z : ℤ} {a b : ℕ} → Diff z a b → b ≤ a → z ≡ pos (a - b)
natural {a = a} {b = b} p h = same p (whole (a - b)) (omega arith)

-- ---- the orders: a - b against c - d is a + d against c + b
pub above : {y z : ℤ} {a b c d : ℕ} → Diff y a b → Diff z c d → below y z ≡ true → a + d < c + b
unfolding below
above {y = pos k} {z = pos l} p q e = let h = ltb-true k l e in omega arith
above {y = pos k} {z = negsuc l} p q e = let h : ◌≡◌ {A = ℕ} 0 1 = cc in omega arith
above {y = negsuc k} {z = pos l} p q e = omega arith
above {y = negsuc k} {z = negsuc l} p q e = let h = ltb-true l k e in omega arith

pub not_above : {y z : ℤ} {a b c d : ℕ} → Diff y a b → Diff z c d → below y z ≡ false → c + b ≤ a + d
unfolding below
not_above {y = pos k} {z = pos l} p q e = let h = ltb-false k l e in omega arith
not_above {y = pos k} {z = negsuc l} p q e = omega arith
not_above {y = negsuc k} {z = pos l} p q e = let h : ◌≡◌ {A = ℕ} 0 1 = cc in omega arith
not_above {y = negsuc k} {z = negsuc l} p q e = let h = ltb-false l k e in omega arith

pub is_below : {y z : ℤ} {a b c d : ℕ} → Diff y a b → Diff z c d → a + d < c + b → below y z ≡ true
unfolding below
is_below {y = pos k} {z = pos l} p q h = lt-ltb k l (omega arith)
is_below {y = pos k} {z = negsuc l} p q h = absurd (omega arith)
is_below {y = negsuc k} {z = pos l} p q h = refl
is_below {y = negsuc k} {z = negsuc l} p q h = lt-ltb l k (omega arith)

pub is_not_below : {y z : ℤ} {a b c d : ℕ} → Diff y a b → Diff z c d → c + b ≤ a + d → below y z ≡ false
unfolding below
is_not_below {y = pos k} {z = pos l} p q h = le-ltb k l (omega arith)
is_not_below {y = pos k} {z = negsuc l} p q h = refl
is_not_below {y = negsuc k} {z = pos l} p q h = absurd (omega arith)
is_not_below {y = negsuc k} {z = negsuc l} p q h = le-ltb l k (omega arith)

pub at_most : {y z : ℤ} {a b c d : ℕ} → Diff y a b → Diff z c d → a + d ≤ c + b → y ≤ℤ z
at_most {y = pos k} {z = pos l} p q h = record { le = le→leb k l (omega arith) }
at_most {y = pos k} {z = negsuc l} p q h = absurd (omega arith)
at_most {y = negsuc k} {z = pos l} p q h = record { le = tt }
at_most {y = negsuc k} {z = negsuc l} p q h = record { le = le→leb l k (omega arith) }

pub told_most : {y z : ℤ} {a b c d : ℕ} → Diff y a b → Diff z c d → y ≤ℤ z → a + d ≤ c + b
told_most {y = pos k} {z = pos l} p q h = let g = leb→le k l h.le in omega arith
told_most {y = pos k} {z = negsuc l} p q h = absurd h.le
told_most {y = negsuc k} {z = pos l} p q h = omega arith
told_most {y = negsuc k} {z = negsuc l} p q h = let g = leb→le l k h.le in omega arith

-- ---- counted from -32768, as the code counts
told : {z : ℤ} {r a b : ℕ} → pos r ≡ z → Diff z a b → a ≡ b + r
told {z = pos k} {r = r} e p = let h : r ≡ k = cc in omega arith
told {z = negsuc k} e p = let h : ◌≡◌ {A = ℕ} 0 1 = cc in omega arith

pub raised : (v : ℤ) {r : ℕ} → pos r ≡ v +ℤ pos 32768 → Diff v r 32768
raised (pos k) e = let h = told e (plus (whole k) (whole 32768)) in record { is = omega arith }
raised (negsuc k) e = let h = told e (subℕ_is 32768 (suc k)) in record { is = omega arith }
