-- Sums and differences of INTEGER16 at 32 bits: they fit, and the machine reads them back as they are.
-- Assumes nothing.
use Prim.Native.Nat.{ℕ, zero, suc, ◌+◌, ◌-◌, ◌<◌, ◌≤◌, ◌^◌}
use mathlib.Core.Bool.{Bool, true, false, cond}
use mathlib.Core.Path.{◌≡◌, subst, sym, ap, ◌∙◌}
use native.Mathlib.Omega.{arith}
use lib.Dec.{ltb}
use lib.IntN.{ℤ, pos, negsuc, neg_ℤ, sub_ℕ, ◌+ℤ◌, ◌-ℤ◌}
use lib.Signed.{mag}
use mir.Syntax.{Width, w16, w32}
use mir.Val.{to_z, of_z, SFits}
use mir.Facts.{to_z-of_z, sfits_widen}

-- ---- a sum is no farther from 0 than its two numbers together
mag_cond : (t : Bool) (x y : ℤ) {n : ℕ} → mag x ≤ n → mag y ≤ n → mag (cond t x y) ≤ n
mag_cond true x y h k = h
mag_cond false x y h k = k

mag_sub : (a b : ℕ) → mag (sub_ℕ a b) ≤ a + b
mag_sub a b = mag_cond (ltb a b) (negsuc (b - suc a)) (pos (a - b)) (omega arith) (omega arith)

mag_sum : (a b : ℤ) → mag (a +ℤ b) ≤ mag a + mag b + 1
mag_sum (pos a) (pos b) = omega arith
mag_sum (pos a) (negsuc b) = omega (arith, mag_sub a (suc b))
mag_sum (negsuc a) (pos b) = omega (arith, mag_sub b (suc a))
mag_sum (negsuc a) (negsuc b) = omega arith

mag_neg : (a : ℤ) → mag (neg_ℤ a) ≤ mag a + 1
mag_neg (pos zero) = omega arith
mag_neg (pos (suc n)) = omega arith
mag_neg (negsuc n) = omega arith

-- a number of at most 17 bits: INTEGER16, and an offset below 65536
pub record Small (z : ℤ) : Type 0 where
  pub size : mag z < 65536

pub small : {a : ℤ} → SFits w16 a → Small a
small f = record { size = omega (arith, f.sfits) }

pub offset : {n : ℕ} → n < 65536 → Small (pos n)
offset h = record { size = h }

module _ {a b : ℤ} (ha : Small a) (hb : Small b) where
  pub sum_fits : SFits w32 (a +ℤ b)
  sum_fits = record { sfits = omega (arith, mag_sum a b) }

  pub difference_fits : SFits w32 (a -ℤ b)
  difference_fits = record { sfits = omega (arith, mag_sum a (neg_ℤ b), mag_neg b) }

-- ---- an operation on two numbers as the machine reads them is the operation on the numbers
module _ (op : ℤ → ℤ → ℤ) {a b x y : ℤ} (ex : x ≡ a) (ey : y ≡ b) (fa : SFits w32 a) (fb : SFits w32 b) (fits : SFits w32 (op a b)) where
  same : op (to_z w32 (of_z w32 x)) (to_z w32 (of_z w32 y)) ≡ op a b
  same = rw (ex, ey) (simp (to_z-of_z fa, to_z-of_z fb))

  pub asked : SFits w32 (op (to_z w32 (of_z w32 x)) (to_z w32 (of_z w32 y)))
  asked = subst (SFits w32) (sym same) fits

  pub given : to_z w32 (of_z w32 (op (to_z w32 (of_z w32 x)) (to_z w32 (of_z w32 y)))) ≡ op a b
  given = to_z-of_z asked ∙ same

-- ---- what `wide`, `raised`, `lowered`, `sum` and `difference` gave, as the next call reads it
module _ {x a : ℤ} (fa : SFits w16 a) where
  pub wide_is : x ≡ to_z w16 (of_z w16 a) → to_z w32 (of_z w32 x) ≡ a
  wide_is e = rw (e, to_z-of_z fa) (to_z-of_z {w = w32} (sfits_widen tt fa))

  module _ {n : ℕ} (small_n : n < 65536) where
    pub raised_is : x ≡ to_z w16 (of_z w16 a) +ℤ pos n → to_z w32 (of_z w32 x) ≡ a +ℤ pos n
    raised_is e = rw (e, to_z-of_z fa) (to_z-of_z (sum_fits (small fa) (offset small_n)))

    pub lowered_is : x ≡ to_z w16 (of_z w16 a) -ℤ pos n → to_z w32 (of_z w32 x) ≡ a -ℤ pos n
    lowered_is e = rw (e, to_z-of_z fa) (to_z-of_z (difference_fits (small fa) (offset small_n)))

  module _ {b : ℤ} (fb : SFits w16 b) where
    pub sum_is : x ≡ to_z w16 (of_z w16 a) +ℤ to_z w16 (of_z w16 b) → to_z w32 (of_z w32 x) ≡ a +ℤ b
    sum_is e = rw (e, to_z-of_z fa, to_z-of_z fb) (to_z-of_z (sum_fits (small fa) (small fb)))

    pub difference_is : x ≡ to_z w16 (of_z w16 a) -ℤ to_z w16 (of_z w16 b) → to_z w32 (of_z w32 x) ≡ a -ℤ b
    difference_is e = rw (e, to_z-of_z fa, to_z-of_z fb) (to_z-of_z (difference_fits (small fa) (small fb)))

-- what a call said its result is, and what the result turned out to be
pub told : {A : Type 0} {r x t : A} → r ≡ x → r ≡ t → x ≡ t
told e g = sym e ∙ g

-- what a call said of a number that it was handed as bits, with what its result turned out to be
pub read : {A : Type 0} {w : Width} {z : ℤ} (f : ℤ → A) {r t : A} → SFits w z → r ≡ f (to_z w (of_z w z)) → r ≡ t → f z ≡ t
read f fits e g = ap f (sym (to_z-of_z fits)) ∙ sym e ∙ g

-- an answer that was found for a number as the machine reads it is the answer for the number
pub answer : {z p q : ℤ} (f : ℤ → ℤ) → SFits w16 z → p ≡ q → f (to_z w16 (of_z w16 z)) ≡ q → p ≡ f z
answer f fits e g = e ∙ sym g ∙ ap f (to_z-of_z fits)

-- an INTEGER16 that a call gave, as it is handed on
pub back : {x a : ℤ} → mag x < 2 ^ 15 → x ≡ a → to_z w16 (of_z w16 x) ≡ a
back {x} h e = to_z-of_z {w = w16} {z = x} (record { sfits = h }) ∙ e
