-- A REAL32 above zero by its bits: an exponent x and 23 digits t, which with a leading one before them stand for (2 ^ 23 + t) * 2 ^ (x - 1)
-- of the smallest values, 2 ^ -149. What nearest is of that, in whole numbers of 32 bits.
-- `HasValue y false a c` says that y is a / c; a positive REAL32 y is `num y` / `den y`.
-- Assumes nothing.
use Prim.Native.Nat.{ℕ, zero, suc, ◌+◌, ◌-◌, ◌*◌, ◌/◌, ◌%◌, ◌^◌, ◌≤◌, ◌<◌}
use mathlib.Core.Bool.{Bool, true, false, not, cond, true≢false}
use mathlib.Core.Path.{◌≡◌, refl, ap, sym, subst, ◌∙◌}
use native.Mathlib.Nat.{mul_comm, mul_assoc, mul_left_comm, mul_right_comm, add-mul, mul-le-mul, mul-le-mul_left, mul-le-mul_right, le_of_mul-le-mul_right, le_trans, lt_of_lt_of_le, lt_of_le_of_lt, lt_of_not-le, not-le_of_lt, mod-eq_of_lt, add-div_right, div-div-eq-div-mul, div-eq_of_lt, mul-div-mul_right}
use native.Mathlib.Omega.{arith}
use lib.Dec.{T, leb, eqb, lit<, nleb→lt}
use lib.Pow.{pow-add, pow_mono, pow_pos}
use lib.Ieee.{Float, nan, inf, fin, binary32, odd, fits, is_nan, of_fields, of_bits, to_bits}
use lib.Ieee.Bits.{of_bits-to_bits}
use lib.Ieee.Exact.{HasValue, odd_sign}
use lib.Ieee.Nearest.{div_same}
use lib.Ieee.Positive.{positive, num, den, den_pos, value→cross}
use Rattle.numbers.specs.Line.{nearest_size}

-- ---- what an exponent x and digits t stand for

-- so many of the smallest values; an exponent of 0 has no leading one, and counts as 1
unfoldable pub count : ℕ → ℕ → ℕ
count zero t = t * 2 ^ 0
count (suc x) t = (0x80_0000 + t) * 2 ^ x

no_number : (s b : Bool) → T (positive (cond b (inf s) nan)) → ⊥
no_number s true p = p
no_number s false p = p

read : (x t : ℕ) → T (positive (of_fields binary32 false x t)) → HasValue (of_fields binary32 false x t) false (count x t) (2 ^ 149)
unfolding of_fields count
read zero t p = odd_sign 24 false t 0 149
read (suc x) t p = go (eqb (suc x) 255) p
  where
    go : (b : Bool) → T (positive (cond b (cond (eqb t 0) (inf false) nan) (odd 24 false (0x80_0000 + t) x 149)))
        → HasValue (cond b (cond (eqb t 0) (inf false) nan) (odd 24 false (0x80_0000 + t) x 149)) false ((0x80_0000 + t) * 2 ^ x) (2 ^ 149)
    go true p = absurd (no_number false (eqb t 0) p)
    go false p = odd_sign 24 false (0x80_0000 + t) x 149

with_sign : (y : Float) (a c : ℕ) → HasValue y true a c → T (positive y) → ⊥
with_sign nan a c v p = p
with_sign (inf s) a c v p = p
with_sign (fin true m e) a c v p = p
with_sign (fin false m e) a c v p = true≢false (sym v.0)

no_sign : (x t : ℕ) → T (positive (of_fields binary32 true x t)) → ⊥
unfolding of_fields
no_sign zero t p = with_sign (odd 24 true t 0 149) (t * 2 ^ 0) (2 ^ 149) (odd_sign 24 true t 0 149) p
no_sign (suc x) t p = go (eqb (suc x) 255) p
  where
    go : (b : Bool) → T (positive (cond b (cond (eqb t 0) (inf true) nan) (odd 24 true (0x80_0000 + t) x 149))) → ⊥
    go true p = no_number true (eqb t 0) p
    go false p = with_sign (odd 24 true (0x80_0000 + t) x 149) ((0x80_0000 + t) * 2 ^ x) (2 ^ 149) (odd_sign 24 true (0x80_0000 + t) x 149) p

pub is_number : (y : Float) → T (positive y) → T (not (is_nan y))
unfolding is_nan
is_number nan p = absurd p
is_number (inf s) p = absurd p
is_number (fin s m e) p = tt

-- ---- the bits of a positive REAL32
module _ (y : Float) (p : T (positive y)) (t : T (fits binary32 y)) where
  back : of_fields binary32 (leb 0x8000_0000 (to_bits binary32 y)) (to_bits binary32 y % 0x8000_0000 / 0x80_0000) (to_bits binary32 y % 0x80_0000) ≡ y
  unfolding of_bits
  back = of_bits-to_bits binary32 y t

  signless : (b : Bool) → leb 0x8000_0000 (to_bits binary32 y) ≡ b → b ≡ false
  signless false e = refl
  signless true e =
      absurd (no_sign (to_bits binary32 y % 0x8000_0000 / 0x80_0000) (to_bits binary32 y % 0x80_0000)
      (subst (λ (z : Float). T (positive z)) (sym (rw e at back)) p))

  positive_bits : to_bits binary32 y < 0x8000_0000
  positive_bits = nleb→lt 0x8000_0000 (to_bits binary32 y) (rw (signless (leb 0x8000_0000 (to_bits binary32 y)) refl) tt)

  same : of_fields binary32 false (to_bits binary32 y / 0x80_0000) (to_bits binary32 y % 0x80_0000) ≡ y
  same = rw (signless (leb 0x8000_0000 (to_bits binary32 y)) refl, mod-eq_of_lt positive_bits) at back

  pub value : HasValue y false (count (to_bits binary32 y / 0x80_0000) (to_bits binary32 y % 0x80_0000)) (2 ^ 149)
  value =
      subst (λ (z : Float). HasValue z false (count (to_bits binary32 y / 0x80_0000) (to_bits binary32 y % 0x80_0000)) (2 ^ 149)) same
      (read (to_bits binary32 y / 0x80_0000) (to_bits binary32 y % 0x80_0000) (subst (λ (z : Float). T (positive z)) (sym same) p))

-- ---- equal fractions have the same nearest whole number; that of less than a half is 0
same_nearest : (n d a c : ℕ) → 0 < d → 0 < c → n * c ≡ a * d → nearest_size n d ≡ nearest_size a c
unfolding nearest_size
same_nearest n d a c p q e =
    div_same (2 * n + d) (2 * d) (2 * a + c) (2 * c) (omega arith) (omega arith)
    (omega (arith, e, add-mul (2 * n) d (2 * c), mul_assoc 2 n (2 * c), mul_left_comm n 2 c, mul_left_comm d 2 c, add-mul (2 * a) c (2 * d), mul_assoc 2 a (2 * d), mul_left_comm a 2 d, mul_left_comm c 2 d, mul_comm c d))

nothing : (n d : ℕ) → 2 * n < d → nearest_size n d ≡ 0
unfolding nearest_size
nothing n d h = div-eq_of_lt (omega arith)

-- cut to halves, one half more, cut to whole ones
halves : (n h : ℕ) → 0 < h → (n / h + 1) / 2 ≡ nearest_size n (h * 2)
unfolding nearest_size
halves n h p =
    ap (λ (k : ℕ). k / 2) (sym (add-div_right n {k = h} p))
    ∙ div-div-eq-div-mul (n + h) h 2
    ∙ sym (mul-div-mul_right {m = 2} (n + h) (h * 2) (omega arith))
    ∙ ap (λ (k : ℕ). k / (h * 2 * 2)) (omega arith)
    ∙ ap (λ (k : ℕ). (2 * n + h * 2) / k) (omega arith)

-- ---- by exponent and digits
small_count : (x t : ℕ) → x < 126 → t < 0x80_0000 → 2 * count x t < 2 ^ 149
unfolding count
small_count zero t h g = lt_of_lt_of_le (omega arith) (pow_mono {i = 24} {j = 149} (omega arith))
small_count (suc x) t h g =
    let most : (0x80_0000 + t) * 2 ^ x ≤ 0xFF_FFFF * 2 ^ 124 =
    mul-le-mul {n₁ = 0x80_0000 + t} {m₁ = 2 ^ x} {n₂ = 0xFF_FFFF} {m₂ = 2 ^ 124} (omega arith) (pow_mono {i = x} {j = 124} (omega arith)) in
    lt_of_le_of_lt (mul-le-mul_left 2 most) (lit< tt)

large_count : (x t : ℕ) → count x t ≤ 2 ^ 164 → x ≤ 149
unfolding count
large_count zero t h = omega arith
large_count (suc x) t h =
    let bound : suc x < 150 = lt_of_not-le (λ (g : 150 ≤ suc x).
    not-le_of_lt {n = 2 ^ 172} {m = 2 ^ 164} (lit< tt) (le_trans (mul-le-mul {n₁ = 0x80_0000} {m₁ = 2 ^ 149} {n₂ = 0x80_0000 + t} {m₂ = 2 ^ x} (omega arith) (pow_mono {i = 149} {j = x} (omega arith))) h)) in
    omega arith

pub cut : (x t : ℕ) → 0 < x → x ≤ 149 → ((t + 0x80_0000) / 2 ^ (149 - x) + 1) / 2 ≡ nearest_size (count x t) (2 ^ 149)
unfolding count
cut zero t l h = absurd (omega arith)
cut (suc x) t l h =
    let q = 0x80_0000 + t in
    let turned : t + 0x80_0000 ≡ q = omega arith in
    let all : x + (149 - suc x + 1) ≡ 149 = omega arith in
    let halved : 2 ^ (149 - suc x) * 2 ≡ 2 ^ (149 - suc x + 1) = sym (pow-add 2 (149 - suc x) 1) in
    let crossed : q * 2 ^ 149 ≡ q * 2 ^ x * (2 ^ (149 - suc x) * 2) =
    sym (ap (λ (k : ℕ). q * 2 ^ x * k) halved ∙ mul_assoc q (2 ^ x) (2 ^ (149 - suc x + 1)) ∙ ap (λ (k : ℕ). q * k) (sym (pow-add 2 x (149 - suc x + 1)) ∙ ap (λ (k : ℕ). 2 ^ k) all)) in
    ap (λ (k : ℕ). (k / 2 ^ (149 - suc x) + 1) / 2) turned
    ∙ halves q (2 ^ (149 - suc x)) (pow_pos (149 - suc x))
    ∙ same_nearest q (2 ^ (149 - suc x) * 2) (q * 2 ^ x) (2 ^ 149) (omega (arith, pow_pos (149 - suc x))) (pow_pos 149) crossed

-- ---- the two returns of the code
module _ (y : Float) (p : T (positive y)) (t : T (fits binary32 y)) where
  by_count : nearest_size (num y) (den y) ≡ nearest_size (count (to_bits binary32 y / 0x80_0000) (to_bits binary32 y % 0x80_0000)) (2 ^ 149)
  by_count =
      same_nearest (num y) (den y) (count (to_bits binary32 y / 0x80_0000) (to_bits binary32 y % 0x80_0000)) (2 ^ 149) (den_pos y) (pow_pos 149)
      (value→cross y _ _ (value y p t))

  pub under_half : to_bits binary32 y < 0x3F00_0000 → 0 ≡ nearest_size (num y) (den y)
  under_half h = sym (by_count ∙ nothing _ _ (small_count _ _ (omega arith) (omega arith)))

  pub in_reach : num y ≤ 32768 * den y → to_bits binary32 y / 0x80_0000 ≤ 149
  in_reach h =
      let c = count (to_bits binary32 y / 0x80_0000) (to_bits binary32 y % 0x80_0000) in
      let crossed : num y * 2 ^ 149 ≡ c * den y = value→cross y _ _ (value y p t) in
      let widened : num y * 2 ^ 149 ≤ 32768 * den y * 2 ^ 149 = mul-le-mul_right (2 ^ 149) h in
      large_count (to_bits binary32 y / 0x80_0000) (to_bits binary32 y % 0x80_0000)
      (le_of_mul-le-mul_right {m = c} {n = 2 ^ 164} {k = den y} (rw (crossed, mul_right_comm 32768 (den y) (2 ^ 149)) at widened) (den_pos y))

  pub from_half : 0x3F00_0000 ≤ to_bits binary32 y → num y ≤ 32768 * den y
      → ((to_bits binary32 y % 0x80_0000 + 0x80_0000) / 2 ^ (149 - to_bits binary32 y / 0x80_0000) + 1) / 2 ≡ nearest_size (num y) (den y)
  from_half g h = cut (to_bits binary32 y / 0x80_0000) (to_bits binary32 y % 0x80_0000) (omega arith) (in_reach h) ∙ sym by_count
