-- The definition's rounding, counted from -32768: a half goes up from 32768 on and down before it.
-- Assumes nothing.
use Prim.Native.Nat.{ℕ, zero, suc, ◌+◌, ◌-◌, ◌*◌, ◌/◌, ◌<◌, ◌≤◌}
use mathlib.Core.Path.{◌≡◌, ap, sym, ◌∙◌}
use native.Mathlib.Nat.{add-mul, mul_left_comm, div-eq_of_lt-le, div-mul-le_self, lt-div-mul-add, lt_of_mul-lt-mul_right, div-lt_iff_lt-mul, le-div_iff_mul-le, zero-mul}
use native.Mathlib.Omega.{arith}
use lib.Dec.{leb→le}
use lib.IntN.{ℤ, pos, negsuc, neg_ℤ, ◌*ℤ◌}
use lib.Signed.{◌≤ℤ◌}
use Rattle.numbers.specs.Line.{nearest, nearest_size}
use Rattle.numbers.proofs.Differences.{Diff, same, shift, whole, minus, parts, at_most}

module _ (d : ℕ) (h : 0 < d) where
  -- the rounded size q of k / d, by its product with d: 2k + d is from 2qd on and below 2(q + 1)d
  size_low : (k : ℕ) → 2 * (nearest_size k d * d) ≤ 2 * k + d
  unfolding nearest_size
  size_low k =
      omega (arith, div-mul-le_self (2 * k + d) (2 * d), mul_left_comm ((2 * k + d) / (2 * d)) 2 d)

  size_high : (k : ℕ) → 2 * k + d < 2 * (nearest_size k d * d) + 2 * d
  unfolding nearest_size
  size_high k =
      let p : 0 < 2 * d = omega arith in
      omega (arith, lt-div-mul-add {a = 2 * k + d} p, mul_left_comm ((2 * k + d) / (2 * d)) 2 d)

  pub from_zero : {z : ℤ} {n : ℕ} → Diff z n (32768 * d) → 32768 * d ≤ n → Diff (nearest z d) ((n + d / 2) / d) 32768
  unfolding nearest
  from_zero {z = pos k} {n} p g =
      let q = nearest_size k d in
      let e = add-mul 32768 q d in
      let e' = add-mul (32768 + q) 1 d in
      let l = size_low k in
      let m = size_high k in
      record { is = div-eq_of_lt-le {k = 32768 + q} d {m = n + d / 2} (omega arith) (omega arith) }
  from_zero {z = negsuc k} p g = absurd (omega arith)

  pub below_zero : {z : ℤ} {n : ℕ} → Diff z n (32768 * d) → n < 32768 * d → Diff (nearest z d) ((n + (d - 1) / 2) / d) 32768
  unfolding nearest
  below_zero {z = pos k} p g = absurd (omega arith)
  below_zero {z = negsuc k} {n} p g =
      let q = nearest_size (suc k) d in
      let l = size_low (suc k) in
      let m = size_high (suc k) in
      let within : q < 32769 = lt_of_mul-lt-mul_right d {m = q} {n = 32769} (omega arith) in
      let r = 32768 - q in
      let s : r + q ≡ 32768 = omega arith in
      let e : r * d + q * d ≡ 32768 * d = sym (add-mul r q d) ∙ ap (λ (i : ℕ). i * d) s in
      let e' = add-mul r 1 d in
      let v : (n + (d - 1) / 2) / d ≡ r = div-eq_of_lt-le {k = r} d {m = n + (d - 1) / 2} (omega arith) (omega arith) in
      shift (minus (whole q)) (omega arith)

  -- from 0 to 65535, what is rounded stays there
  pub stays : {n k : ℕ} → n ≤ 65535 * d → k < d → (n + k) / d < 65536
  stays {n} {k} a b = (div-lt_iff_lt-mul {k = d} {x = n + k} {y = 65536} h).1 (omega arith)

  -- ---- rounding keeps order, and leaves a whole number
  size_mono : {j k : ℕ} → j ≤ k → nearest_size j d ≤ nearest_size k d
  unfolding nearest_size
  size_mono {j} {k} g =
      let p : 0 < 2 * d = omega arith in
      (le-div_iff_mul-le {k = 2 * d} {x = (2 * j + d) / (2 * d)} {y = 2 * k + d} p).1 (omega (arith, div-mul-le_self (2 * j + d) (2 * d)))

  size_whole : (k : ℕ) → nearest_size (k * d) d ≡ k
  unfolding nearest_size
  size_whole k = div-eq_of_lt-le {k = k} (2 * d) {m = 2 * (k * d) + d} (omega (arith, mul_left_comm k 2 d)) (omega (arith, mul_left_comm k 2 d, add-mul k 1 (2 * d)))

  -- the rounding of z, by z's sign, as a difference
  negative : (n : ℕ) → Diff (nearest (neg_ℤ (pos n)) d) 0 (nearest_size n d)
  unfolding nearest
  negative zero = let e : nearest_size 0 d ≡ 0 = rw (zero-mul d) at (size_whole 0) in record { is = omega arith }
  negative (suc n) = minus (whole (nearest_size (suc n) d))

  pub mono : {y z : ℤ} → y ≤ℤ z → nearest y d ≤ℤ nearest z d
  unfolding nearest
  mono {y = pos j} {z = pos k} g = at_most (whole (nearest_size j d)) (whole (nearest_size k d)) (let l = size_mono (leb→le j k g.le) in omega arith)
  mono {y = pos j} {z = negsuc k} g = absurd g.le
  mono {y = negsuc j} {z = pos k} g = at_most (negative (suc j)) (whole (nearest_size k d)) (omega arith)
  mono {y = negsuc j} {z = negsuc k} g = let l = leb→le k j g.le in at_most (negative (suc j)) (negative (suc k)) (let m = size_mono {j = suc k} {k = suc j} (omega arith) in omega arith)

  pub keeps : (y : ℤ) → nearest (y *ℤ pos d) d ≡ y
  unfolding nearest
  keeps (pos k) = ap pos (size_whole k)
  keeps (negsuc k) = let e = size_whole (suc k) in same (negative (suc k * d)) (parts (negsuc k)) (omega arith)
