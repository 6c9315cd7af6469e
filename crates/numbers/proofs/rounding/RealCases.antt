-- The INTEGER16 of a REAL32 in the five cases that its code tells apart: above 32767, below -32768, positive, negative, and the rest.
-- Assumes nothing.
use Prim.Native.Nat.{ℕ, zero, suc, ◌+◌, ◌*◌, ◌/◌, ◌≤◌, ◌<◌}
use mathlib.Core.Bool.{Bool, true, false, true≢false}
use mathlib.Core.Path.{◌≡◌, refl, ap, sym}
use native.Mathlib.Nat.{mul_left_comm, add-mul, div-lt_iff_lt-mul, le-div_iff_mul-le}
use native.Mathlib.Omega.{arith}
use borrow.Author.Tests.{le-ltb, ltb-true, ltb-false}
use lib.Dec.{T, ltb, lt→ltb}
use lib.IntN.{pos, negsuc, neg_ℤ}
use lib.Ieee.{Float, nan, inf, fin, up, down, lt, neg}
use lib.Ieee.Fits.{down_pos}
use lib.Ieee.Positive.{positive, num, den, first_pos}
use Rattle.numbers.specs.Choice.{first}
use Rattle.numbers.specs.Order.{below}
use Rattle.numbers.specs.Limit.{limit_whole}
use Rattle.numbers.specs.Line.{nearest_size}
use Rattle.numbers.specs.Nearest.{limit16, nearest16}

-- ---- how large the rounded size is
module _ (k n d : ℕ) (p : 0 < d) where
  doubled : k * (2 * d) ≡ 2 * (k * d)
  doubled = mul_left_comm k 2 d

  pub size_most : n ≤ k * d → nearest_size n d ≤ k
  unfolding nearest_size
  size_most h =
      let q : 0 < 2 * d = omega arith in
      let l : (2 * n + d) / (2 * d) < k + 1 = (div-lt_iff_lt-mul {k = 2 * d} {x = 2 * n + d} {y = k + 1} q).1 (omega (arith, doubled, add-mul k 1 (2 * d))) in
      omega arith

  pub size_least : k * d < n → k ≤ nearest_size n d
  unfolding nearest_size
  size_least h =
      let q : 0 < 2 * d = omega arith in
      (le-div_iff_mul-le {k = 2 * d} {x = k} {y = 2 * n + d} q).1 (omega (arith, doubled))

-- ---- limits at the ends of INTEGER16
over : (q : ℕ) → 32767 ≤ q → (t : Bool) → ltb 32767 q ≡ t → first t (pos 32767) (pos q) ≡ pos 32767
unfolding first
over q h true e = refl
over q h false e = let g = ltb-false 32767 q e in ap pos (omega arith)

limited_top : (q : ℕ) → 32767 ≤ q → limit16 (pos q) ≡ pos 32767
unfolding limit16 limit_whole below first
limited_top q h = over q h (ltb 32767 q) refl

limited_above : (q : ℕ) → q ≤ 32767 → limit16 (pos q) ≡ pos q
unfolding limit16 limit_whole below first
limited_above q h = rw (le-ltb 32767 q h)

under : (k : ℕ) → 32767 ≤ k → (t : Bool) → ltb 32767 k ≡ t → first t (negsuc 32767) (negsuc k) ≡ negsuc 32767
unfolding first
under k h true e = refl
under k h false e = let g = ltb-false 32767 k e in ap negsuc (omega arith)

limited_bottom : (q : ℕ) → 32768 ≤ q → limit16 (neg_ℤ (pos q)) ≡ negsuc 32767
unfolding limit16 limit_whole below first
limited_bottom zero h = absurd (omega arith)
limited_bottom (suc k) h = under k (omega arith) (ltb 32767 k) refl

limited_below : (q : ℕ) → q ≤ 32768 → limit16 (neg_ℤ (pos q)) ≡ neg_ℤ (pos q)
unfolding limit16 limit_whole below first
limited_below zero h = refl
limited_below (suc k) h = rw (le-ltb 32767 k (omega arith))

-- ---- the five cases
pub top : (v : Float) → lt (fin false 32767 (pos 0)) v ≡ true → nearest16 v ≡ pos 32767
unfolding lt nearest16 first
top nan h = absurd (true≢false (sym h))
top (inf true) h = absurd (true≢false (sym h))
top (inf false) h = refl
top (fin true m e) h = absurd (true≢false (sym h))
top (fin false m e) h =
    let l = ltb-true (32767 * down e) (m * up e * 1) h in
    limited_top (nearest_size (m * up e) (down e)) (size_least 32767 (m * up e) (down e) (down_pos e) (omega arith))

pub bottom : (v : Float) → lt v (fin true 1 (pos 15)) ≡ true → nearest16 v ≡ negsuc 32767
unfolding lt nearest16 first
bottom nan h = absurd (true≢false (sym h))
bottom (inf false) h = absurd (true≢false (sym h))
bottom (inf true) h = refl
bottom (fin false m e) h = absurd (true≢false (sym h))
bottom (fin true m e) h =
    let l = ltb-true (32768 * down e) (m * up e * 1) h in
    limited_bottom (nearest_size (m * up e) (down e)) (size_least 32768 (m * up e) (down e) (down_pos e) (omega arith))

pub is_positive : (v : Float) → lt (fin false 32767 (pos 0)) v ≡ false → lt (fin false 0 (pos 0)) v ≡ true → T (positive v) × (num v ≤ 32767 * den v)
unfolding lt
is_positive nan h g = absurd (true≢false (sym g))
is_positive (inf true) h g = absurd (true≢false (sym g))
is_positive (inf false) h g = absurd (true≢false h)
is_positive (fin true m e) h g = absurd (true≢false (sym g))
is_positive (fin false m e) h g =
    let l = ltb-true (0 * down e) (m * up e * 1) g in
    let k = ltb-false (32767 * down e) (m * up e * 1) h in
    (lt→ltb 0 m (first_pos m (up e) (omega arith)), omega arith)

pub at_positive : (v : Float) → T (positive v) → num v ≤ 32767 * den v → nearest16 v ≡ pos (nearest_size (num v) (den v))
unfolding nearest16 first
at_positive nan p h = absurd p
at_positive (inf s) p h = absurd p
at_positive (fin true m e) p h = absurd p
at_positive (fin false m e) p h = limited_above (nearest_size (m * up e) (down e)) (size_most 32767 (m * up e) (down e) (down_pos e) h)

pub is_negative : (v : Float) → lt v (fin true 1 (pos 15)) ≡ false → lt v (fin false 0 (pos 0)) ≡ true → T (positive (neg v)) × (num (neg v) ≤ 32768 * den (neg v))
unfolding lt neg
is_negative nan h g = absurd (true≢false (sym g))
is_negative (inf false) h g = absurd (true≢false (sym g))
is_negative (inf true) h g = absurd (true≢false h)
is_negative (fin false m e) h g = let l = ltb-true (m * up e * 1) (0 * down e) g in absurd (omega arith)
is_negative (fin true m e) h g =
    let l = ltb-true 0 (m * up e * 1 + 0 * down e) g in
    let k = ltb-false (32768 * down e) (m * up e * 1) h in
    (lt→ltb 0 m (first_pos m (up e) (omega arith)), omega arith)

pub at_negative : (v : Float) → T (positive (neg v)) → num (neg v) ≤ 32768 * den (neg v) → nearest16 v ≡ neg_ℤ (pos (nearest_size (num (neg v)) (den (neg v))))
unfolding nearest16 first neg
at_negative nan p h = absurd p
at_negative (inf s) p h = absurd p
at_negative (fin false m e) p h = absurd p
at_negative (fin true m e) p h = limited_below (nearest_size (m * up e) (down e)) (size_most 32768 (m * up e) (down e) (down_pos e) h)

pub nothing : (n d : ℕ) → 0 < d → n ≤ 0 → nearest_size n d ≡ 0
nothing n d p h = let l = size_most 0 n d p (omega arith) in omega arith

pub at_zero : (v : Float) → lt (fin false 0 (pos 0)) v ≡ false → lt v (fin false 0 (pos 0)) ≡ false → nearest16 v ≡ pos 0
unfolding lt nearest16 limit16 limit_whole below first
at_zero nan h g = refl
at_zero (inf true) h g = absurd (true≢false g)
at_zero (inf false) h g = absurd (true≢false h)
at_zero (fin true m e) h g =
    let l = ltb-false 0 (m * up e * 1 + 0 * down e) g in
    rw (nothing (m * up e) (down e) (down_pos e) (omega arith))
at_zero (fin false m e) h g =
    let l = ltb-false (0 * down e) (m * up e * 1) h in
    rw (nothing (m * up e) (down e) (down_pos e) (omega arith))
