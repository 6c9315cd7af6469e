-- Laws of the digits: names in range, products that fit 32 bits, and two numbers that are the same.
-- Assumes nothing.
use Prim.Native.Nat.{ℕ, zero, suc, ◌*◌, ◌<◌, ◌≤◌}
use mathlib.Core.Bool.{Bool, true, false, not, ◌&&◌, ◌||◌}
use mathlib.Core.List.{List, [], ◌∷◌, map}
use mathlib.Core.Path.{◌≡◌, refl, sym, ap, ◌∙◌}
use native.Mathlib.Omega.{arith}
use borrow.Author.Tests.{eqb-false, ltb-false, ne_eqb, eq-eqb, le-ltb}
use lib.Dec.{eqb, ltb}
use lib.IntN.{ℤ, pos, negsuc, neg_ℤ, ◌*ℤ◌, negsuc-*ℤ-pos}
use lib.Signed.{mag, lt_z, le_z}
use mir.Syntax.{w16, w32}
use mir.Val.{SFits, to_z, of_z}
use mir.Facts.{to_z-of_z}
use Rattle.numbers.specs.Choice.{first}
use Rattle.numbers.specs.Order.{below}
use Rattle.numbers.proofs.Tests.{bits_same, le_below}
use Rattle.logic.specs.Digits.{within, tens, orders, in_same_digits}

-- ---- what a number names matters only where it names something
pub within_same : (count number : ℕ) {a b : ℕ} → (0 < number → number ≤ count → a ≡ b) → within count number a ≡ within count number b
unfolding within first
within_same count number {a} {b} same = by (eqb number 0) (ltb count number) refl refl where
  by : (none past : Bool) → eqb number 0 ≡ none → ltb count number ≡ past → within count number a ≡ within count number b
  by true past e f = rw e
  by false true e f = rw (e, f)
  by false false e f = rw (e, f) (same (omega (arith, eqb-false number 0 e)) (ltb-false count number f))

-- ---- a product with 10 ^ digits
by_digits : (P : ℕ → Type 0) → P 1 → P 10 → P 100 → P 1000 → (digits : ℕ) → P (tens digits)
unfolding tens first
by_digits P one ten hundred thousand digits = by (eqb digits 0) (eqb digits 1) (eqb digits 2) where
  by : (a b c : Bool) → P (first a 1 (first b 10 (first c 100 1000)))
  by true b c = one
  by false true c = ten
  by false false true = hundred
  by false false false = thousand

pub tens_fits : (digits : ℕ) → SFits w32 (pos (tens digits))
tens_fits =
    by_digits (λ (t : ℕ). SFits w32 (pos t)) (record { sfits = omega arith }) (record { sfits = omega arith }) (record { sfits = omega arith }) (record { sfits = omega arith })

-- a product is no farther from 0 than the product of the sizes
size_of_negative : (k : ℕ) → mag (neg_ℤ (pos k)) ≤ k
size_of_negative zero = omega arith
size_of_negative (suc k) = omega arith

size_of : (n t : ℕ) → mag (negsuc n *ℤ pos t) ≤ suc n * t
size_of n t = rw negsuc-*ℤ-pos (size_of_negative (suc n * t))

pub product_fits : (v : ℤ) → SFits w16 v → (digits : ℕ) → SFits w32 (v *ℤ pos (tens digits))
product_fits (pos n) f =
    let h : n < 32768 = f.sfits in
    by_digits (λ (t : ℕ). SFits w32 (pos n *ℤ pos t)) (record { sfits = omega arith }) (record { sfits = omega arith }) (record { sfits = omega arith }) (record { sfits = omega arith })
product_fits (negsuc n) f =
    let h : n < 32768 = f.sfits in
    by_digits (λ (t : ℕ). SFits w32 (negsuc n *ℤ pos t))
    (record { sfits = omega (arith, size_of n 1) }) (record { sfits = omega (arith, size_of n 10) })
    (record { sfits = omega (arith, size_of n 100) }) (record { sfits = omega (arith, size_of n 1000) })

-- ---- "a pressure with one digit against a setpoint with two": 12.5 against 1.30 by comparisons 0 to 5; -12.5 against -1.30; 1.5 against 1.50
abbrev pub all_six : ℤ → ℕ → ℤ → ℕ → List Bool
all_six v d w e = map (λ c. in_same_digits c v d w e) (0 ∷ 1 ∷ 2 ∷ 3 ∷ 4 ∷ 5 ∷ [])

pub on_the_bench :
    (all_six (pos 125) 1 (pos 130) 2 ≡ false ∷ true ∷ true ∷ true ∷ false ∷ false ∷ [])
    × (all_six (negsuc 124) 1 (negsuc 129) 2 ≡ false ∷ true ∷ false ∷ false ∷ true ∷ true ∷ [])
    × (all_six (pos 15) 1 (pos 150) 2 ≡ true ∷ false ∷ false ∷ true ∷ false ∷ true ∷ [])
    × (all_six (negsuc 32767) 3 (negsuc 32767) 0 ≡ false ∷ true ∷ true ∷ true ∷ false ∷ false ∷ [])
unfolding in_same_digits orders tens below first
on_the_bench = (refl, refl, refl, refl)
