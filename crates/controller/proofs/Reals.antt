-- REAL32 operations that give a number: none of them makes a NaN of the operands that a math block has.
-- Assumes nothing.
use Prim.Native.Nat.{ℕ, zero, suc, ◌+◌, ◌-◌, ◌*◌, ◌^◌, ◌<◌, ◌≤◌}
use mathlib.Core.Bool.{Bool, true, false, not, cond, beq, ◌&&◌, ◌||◌}
use mathlib.Core.Path.{◌≡◌, refl, sym, ap, ◌∙◌, subst}
use native.Mathlib.Nat.{mul_assoc, mul_comm, mul_left_comm, mul_right_comm, mul-pos, mul-one, add-mul, mul-le-mul, mul-le-mul_right, mul-lt-mul_of_pos_right, mul-sub, le_of_lt, le_of_mul-le-mul_right, le_trans, le_of_eq}
use native.Mathlib.Omega.{arith}
use borrow.Author.Tests.{ltb-true, ltb-false, eqb-true, ne_eqb, lt-ltb, le-ltb}
use lib.Dec.{T, ltb, eqb, lit<, lit≤}
use lib.IntN.{ℤ, pos, negsuc}
use mir.Syntax.{w16}
use mir.Val.{SFits}
use lib.Ieee.{Float, nan, inf, fin, binary32, low, prec, emax, up, down, round, units, odd, sum, add, sub, neg, mul, div, lt, eq, le, is_nan, of_int, unlike}
use lib.Ieee.Back.{round_whole}
use lib.Ieee.Exact.{HasValue}
use lib.Ieee.Fits.{round_is, down_pos}
use lib.Ieee.Order.{round_mono}
use lib.Ieee.Scale.{finite, round_same}
use Rattle.numbers.specs.Choice.{first}
use Rattle.numbers.specs.Order.{below}
use Rattle.numbers.proofs.Choices.{chosen}
use Rattle.numbers.specs.Limit.{limit_real}

-- not a NaN
pub record Number (x : Float) : Type 0 where
  pub is : is_nan x ≡ false

-- ---- what `round` gives is a number

an_infinity : (s : Bool) → Number (inf s)
unfolding is_nan
an_infinity s = record { is = refl }

odd_number : (d : ℕ) (s : Bool) (q k l : ℕ) → Number (odd d s q k l)
unfolding odd is_nan
odd_number d s zero k l = record { is = refl }
odd_number d s (suc q) k l = record { is = refl }

both : (b : Bool) {x y : Float} → Number x → Number y → Number (cond b x y)
both true p q = p
both false p q = q

units_number : (s : Bool) (q k : ℕ) → Number (units binary32 s q k)
unfolding units
units_number s q k =
    both (ltb (q * 2 ^ k) (2 ^ (low binary32 + suc (emax binary32)))) (odd_number (suc (prec binary32)) s q k (low binary32)) (an_infinity s)

rounded : (s : Bool) (a b : ℕ) → Number (round binary32 s a b)
rounded s a b = subst Number (sym (round_is binary32 s a b)) (units_number s _ _)

summed : (s : Bool) (a : ℕ) (t : Bool) (b c : ℕ) → Number (sum binary32 s a t b c)
unfolding sum
summed s a t b c = both (beq s t) (rounded s (a + b) c) (both (ltb a b) (rounded t (b - a) c) (rounded (s && ltb b a) (a - b) c))

-- ---- the operations

pub no : {A : Type 0} → true ≡ false → A
no e = absurd (let z : ◌≡◌ {A = ℕ} 0 1 = cc in omega arith)

not_nan : {A : Type 0} → Number nan → A
unfolding is_nan
not_nan h = no h.is

pub added : (x y : Float) → Number x → T (finite y) → Number (add binary32 x y)
unfolding add
added nan y e h = not_nan e
added (inf s) nan e h = absurd h
added (inf s) (inf t) e h = absurd h
added (inf s) (fin t n d) e h = an_infinity s
added (fin s m k) nan e h = absurd h
added (fin s m k) (inf t) e h = absurd h
added (fin s m k) (fin t n d) e h = summed s (m * up k * down d) t (n * up d * down k) (down k * down d)

pub taken : (x y : Float) → Number x → T (finite y) → Number (sub binary32 x y)
unfolding sub neg
taken x nan e h = absurd h
taken x (inf t) e h = absurd h
taken x (fin t n d) e h = added x (fin (not t) n d) e tt

pub multiplied : (x y : Float) → T (finite x) → T (finite y) → Number (mul binary32 x y)
unfolding mul
multiplied nan y g h = absurd g
multiplied (inf s) y g h = absurd g
multiplied (fin s m e) nan g h = absurd h
multiplied (fin s m e) (inf t) g h = absurd h
multiplied (fin s m e) (fin t n d) g h = rounded (unlike s t) (m * up e * (n * up d)) (down e * down d)

-- what can be divided by: a finite number that is not 0
abbrev pub Divisor : Float → Type 0
Divisor nan = ⊥
Divisor (inf s) = ⊥
Divisor (fin s m e) = 0 < m

pub divided : (x y : Float) → Number x → Divisor y → Number (div binary32 x y)
unfolding div
divided nan y e h = not_nan e
divided (inf s) nan e h = absurd h
divided (inf s) (inf t) e h = absurd h
divided (inf s) (fin t n d) e h = an_infinity (unlike s t)
divided (fin s m k) nan e h = absurd h
divided (fin s m k) (inf t) e h = absurd h
divided (fin s m k) (fin t n d) e h = rw (ne_eqb n 0 (λ z. omega arith)) (rounded (unlike s t) (m * up k * down d) (n * up d * down k))

-- ---- numbers of a known size

-- at most k
abbrev pub Near : ℕ → Float → Type 0
Near k nan = ⊥
Near k (inf s) = ⊥
Near k (fin s m e) = m * up e ≤ k * down e

pub near_finite : (k : ℕ) (x : Float) → Near k x → T (finite x)
near_finite k nan h = h
near_finite k (inf s) h = h
near_finite k (fin s m e) h = tt

pub finite_number : (x : Float) → T (finite x) → Number x
unfolding is_nan
finite_number nan h = absurd h
finite_number (inf s) h = absurd h
finite_number (fin s m e) h = record { is = refl }

most : (a b : ℕ) (t : Bool) → T (ltb a b || (eqb a b && t)) → a ≤ b
most a b t h = by (ltb a b) refl (eqb a b) refl h where
  by : (p : Bool) → ltb a b ≡ p → (q : Bool) → eqb a b ≡ q → T (p || (q && t)) → a ≤ b
  by true e q f h = let g = ltb-true a b e in omega arith
  by false e true f h = let g = eqb-true a b f in omega arith
  by false e false f h = absurd h

module _ (k : ℕ) where
  -- what is not above the whole number k
  under : (m : ℕ) (e : ℤ) (y : Float) → HasValue y false k 1 → T (le (fin false m e) y) → m * up e ≤ k * down e
  unfolding le lt eq
  under m e nan v h = absurd v
  under m e (inf s) v h = absurd v
  under m e (fin true n d) v h = no v.0
  under m e (fin false n d) v h =
      let g = most (m * up e * down d) (n * up d * down e) _ h in
      let w : n * up d ≡ k * down d = sym (mul-one (n * up d)) ∙ v.1 in
      le_of_mul-le-mul_right (le_trans g (le_of_eq (ap (λ (z : ℕ). z * down e) w ∙ mul_right_comm k (down d) (down e)))) (down_pos d)

  odd_near : (d : ℕ) (s : Bool) (q j l : ℕ) (y : Float) → HasValue y false k 1 → T (le (odd d false q j l) y) → Near k (odd d s q j l)
  unfolding odd
  odd_near d s zero j l y v h = omega arith
  odd_near d s (suc q) j l y v h = under _ _ y v h

  over : (y : Float) → HasValue y false k 1 → T (le (inf false) y) → ⊥
  unfolding le lt eq
  over nan v h = v
  over (inf s) v h = v
  over (fin s m e) v h = h

  units_near : (s : Bool) (q j : ℕ) (y : Float) → HasValue y false k 1 → T (le (units binary32 false q j) y) → Near k (units binary32 s q j)
  unfolding units
  units_near s q j y v h = by (ltb (q * 2 ^ j) (2 ^ (low binary32 + suc (emax binary32)))) h where
    by : (b : Bool) → T (le (cond b (odd (suc (prec binary32)) false q j (low binary32)) (inf false)) y) → Near k (cond b (odd (suc (prec binary32)) s q j (low binary32)) (inf s))
    by true h = odd_near (suc (prec binary32)) s q j (low binary32) y v h
    by false h = absurd (over y v h)

  -- a fraction of at most k, rounded
  pub rounded_near : k ≤ 2 ^ 24 → (s : Bool) (a b : ℕ) → 0 < b → a ≤ k * b → Near k (round binary32 s a b)
  rounded_near small s a b low h =
      subst (Near k) (sym (round_is binary32 s a b))
      (units_near s _ _ (round binary32 false k 1) (round_whole binary32 false k small)
      (subst (λ (x : Float). T (le x (round binary32 false k 1))) (round_is binary32 false a b)
      (round_mono binary32 a b k 1 low (lit< tt) (le_trans (le_of_eq (mul-one a)) h))))

pub product_near : (j k : ℕ) → j * k ≤ 2 ^ 24 → (x y : Float) → Near j x → Near k y → Near (j * k) (mul binary32 x y)
unfolding mul
product_near j k small nan y g h = absurd g
product_near j k small (inf s) y g h = absurd g
product_near j k small (fin s m e) nan g h = absurd h
product_near j k small (fin s m e) (inf t) g h = absurd h
product_near j k small (fin s m e) (fin t n d) g h =
    let regroup : j * down e * (k * down d) ≡ j * k * (down e * down d) = simp (mul_assoc, mul_left_comm) in
    rounded_near (j * k) small (unlike s t) (m * up e * (n * up d)) (down e * down d) (mul-pos (down_pos e) (down_pos d)) (le_trans (mul-le-mul g h) (le_of_eq regroup))

-- ---- limits

-- 0 and -1 as `limit_real` has them below 1
pub data Floor : Float → Type 0 where
  none : Floor (fin false 0 (pos 0))
  minus_one : Floor (fin true 1 (pos 0))

abbrev one : Float
one = fin false 1 (pos 0)

floor_near : (low : Float) → Floor low → Near 1 low
floor_near low none = lit≤ tt
floor_near low minus_one = lit≤ tt

inside : (v low : Float) → Number v → Floor low → lt v low ≡ false → lt one v ≡ false → Near 1 v
unfolding lt
inside nan floor e f t u = not_nan e
inside (inf false) floor e f t u = no u
inside (inf true) floor e none t u = no t
inside (inf true) floor e minus_one t u = no t
inside (fin false m k) floor e f t u = omega (arith, ltb-false (1 * 1 * down k) (m * up k * 1) u)
inside (fin true m k) floor e none t u = omega (arith, ltb-false 0 (m * up k * 1 + 0 * 1 * down k) t)
inside (fin true m k) floor e minus_one t u = omega (arith, ltb-false (1 * 1 * down k) (m * up k * 1) t)

-- a number limited to 0..1 or -1..1
pub limited_near : (v low : Float) → Number v → Floor low → Near 1 (limit_real v low one)
unfolding limit_real
limited_near v low e f = chosen (Near 1) (lt v low) low (first (lt one v) one v) (λ t. floor_near low f) (λ t. chosen (Near 1) (lt one v) one v (λ u. lit≤ tt) (λ u. inside v low e f t u))

-- ---- whole numbers

abbrev size : ℤ → ℕ
size (pos n) = n
size (negsuc n) = suc n

abbrev negative : ℤ → Bool
negative (pos n) = false
negative (negsuc n) = true

whole_is : (z : ℤ) → SFits w16 z → HasValue (of_int binary32 z) (negative z) (size z) 1
unfolding of_int
whole_is (pos n) f = round_whole binary32 false n (omega (arith, f.sfits))
whole_is (negsuc n) f = round_whole binary32 true (suc n) (omega (arith, f.sfits))

value_finite : (x : Float) (s : Bool) (a : ℕ) → HasValue x s a 1 → T (finite x)
value_finite nan s a v = v
value_finite (inf t) s a v = v
value_finite (fin t m e) s a v = tt

pub whole_finite : (z : ℤ) → SFits w16 z → T (finite (of_int binary32 z))
whole_finite z f = value_finite (of_int binary32 z) (negative z) (size z) (whole_is z f)

-- a hundredth of one
hundredth : (x : Float) (s : Bool) (a : ℕ) → a ≤ 32800 → HasValue x s a 1 → Near 328 (div binary32 x (fin false 25 (pos 2)))
unfolding div
hundredth nan s a l v = absurd v
hundredth (inf t) s a l v = absurd v
hundredth (fin t m e) s a l v =
    rounded_near 328 (lit≤ tt) (unlike t false) (m * up e * 1) (25 * 4 * down e) (omega (arith, down_pos e))
    (le_trans (le_of_eq v.1) (le_trans (mul-le-mul_right (down e) l) (omega arith)))

pub hundredth_near : (z : ℤ) → SFits w16 z → Near 328 (div binary32 (of_int binary32 z) (fin false 25 (pos 2)))
hundredth_near (pos n) f = hundredth _ false n (omega (arith, f.sfits)) (whole_is (pos n) f)
hundredth_near (negsuc n) f = hundredth _ true (suc n) (omega (arith, f.sfits)) (whole_is (negsuc n) f)

-- ---- the difference of two whole numbers that differ is one to divide by

value_divisor : (x : Float) (s : Bool) (a : ℕ) → 0 < a → HasValue x s a 1 → Divisor x
value_divisor nan s a p v = v
value_divisor (inf t) s a p v = v
value_divisor (fin t zero e) s a p v = absurd (let h = mul-pos p (down_pos e) in omega (arith, v.1))
value_divisor (fin t (suc m) e) s a p v = omega arith

module _ (c : ℕ) (low : 0 < c) where
  rounded_divisor : (s : Bool) (r k : ℕ) → r ≡ k * c → 0 < k → k ≤ 2 ^ 24 → Divisor (round binary32 s r c)
  rounded_divisor s r k e p small =
      subst Divisor (sym (round_same binary32 s r c k 1 low (lit< tt) (mul-one r ∙ e)))
      (value_divisor (round binary32 s k 1) s k p (round_whole binary32 s k small))

  -- two of one sign, and a smaller from a larger
  together : (s : Bool) (p q : ℕ) → 0 < p + q → p + q ≤ 2 ^ 24 → Divisor (sum binary32 s (p * c) s (q * c) c)
  unfolding sum
  together true p q h small = rounded_divisor true (p * c + q * c) (p + q) (sym (add-mul p q c)) h small
  together false p q h small = rounded_divisor false (p * c + q * c) (p + q) (sym (add-mul p q c)) h small

  fewer : (p q : ℕ) → p * c - q * c ≡ (p - q) * c
  fewer p q = rw (mul_comm p c, mul_comm q c, mul_comm (p - q) c) (sym (mul-sub c p q))

  above : (p q : ℕ) → q < p → p ≤ 2 ^ 24 → Divisor (sum binary32 false (p * c) true (q * c) c)
  unfolding sum
  above p q h small =
      let l = mul-le-mul_right c (le_of_lt h) in
      rw (le-ltb (p * c) (q * c) l) (rounded_divisor false (p * c - q * c) (p - q) (fewer p q) (omega arith) (omega arith))

  beyond : (p q : ℕ) → p < q → q ≤ 2 ^ 24 → Divisor (sum binary32 true (p * c) false (q * c) c)
  unfolding sum
  beyond p q h small =
      rw (lt-ltb (p * c) (q * c) (mul-lt-mul_of_pos_right h low)) (rounded_divisor false (q * c - p * c) (q - p) (fewer q p) (omega arith) (omega arith))

difference : (x y : Float) (s t : Bool) (p q : ℕ) → HasValue x s p 1 → HasValue y t q 1
    → ((c : ℕ) → 0 < c → Divisor (sum binary32 s (p * c) (not t) (q * c) c)) → Divisor (sub binary32 x y)
unfolding sub neg add
difference nan y s t p q v w h = absurd v
difference (inf s') y s t p q v w h = absurd v
difference (fin s' m e) nan s t p q v w h = absurd w
difference (fin s' m e) (inf t') s t p q v w h = absurd w
difference (fin s' m e) (fin t' n d) s t p q v w h =
    let a : m * up e * down d ≡ p * (down e * down d) = ap (λ (z : ℕ). z * down d) (sym (mul-one (m * up e)) ∙ v.1) ∙ mul_assoc p (down e) (down d) in
    let b : n * up d * down e ≡ q * (down e * down d) =
    ap (λ (z : ℕ). z * down e) (sym (mul-one (n * up d)) ∙ w.1) ∙ mul_assoc q (down d) (down e) ∙ ap (λ (z : ℕ). q * z) (mul_comm (down d) (down e)) in
    rw (v.0, w.0, a, b) (h (down e * down d) (mul-pos (down_pos e) (down_pos d)))

pub whole_divisor : (a b : ℤ) → SFits w16 a → SFits w16 b → below a b ≡ true → Divisor (sub binary32 (of_int binary32 b) (of_int binary32 a))
unfolding below
whole_divisor (pos n) (pos m) f g e =
    difference _ _ false false m n (whole_is (pos m) g) (whole_is (pos n) f) (λ c low. above c low m n (ltb-true n m e) (omega (arith, g.sfits)))
whole_divisor (pos n) (negsuc m) f g e = no (sym e)
whole_divisor (negsuc n) (pos m) f g e =
    difference _ _ false true m (suc n) (whole_is (pos m) g) (whole_is (negsuc n) f) (λ c low. together c low false m (suc n) (omega arith) (omega (arith, f.sfits, g.sfits)))
whole_divisor (negsuc n) (negsuc m) f g e =
    let h = ltb-true m n e in
    difference _ _ true true (suc m) (suc n) (whole_is (negsuc m) g) (whole_is (negsuc n) f) (λ c low. beyond c low (suc m) (suc n) (omega arith) (omega (arith, f.sfits)))
