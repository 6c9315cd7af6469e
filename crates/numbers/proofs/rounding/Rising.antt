-- A larger REAL32 never becomes a smaller INTEGER16: nearest, halves away from zero, with its limits, rises with its argument.
-- Assumes nothing.
use Prim.Native.Nat.{ℕ, ◌+◌, ◌*◌, ◌<◌, ◌≤◌}
use mathlib.Core.Bool.{Bool, true, false, ◌&&◌, ◌||◌, and-eq-true_iff, true≢false}
use mathlib.Core.Path.{◌≡◌, refl, sym, ◌∙◌}
use native.Mathlib.Nat.{add-mul, mul-mul-mul_comm, mul_left_comm, mul_comm, le_of_mul-le-mul_right}
use native.Mathlib.Omega.{arith}
use borrow.Author.Tests.{ltb-true, eqb-true}
use lib.Dec.{ltb, eqb}
use lib.IntN.{ℤ, pos, neg_ℤ}
use lib.Ieee.{Float, nan, inf, fin, up, down, lt, eq, le}
use lib.Ieee.Fits.{down_pos}
use lib.Ieee.Nearest.{div_mono}
use lib.Signed.{◌≤ℤ◌, ≤ℤ_refl}
use Rattle.numbers.specs.Choice.{first}
use Rattle.numbers.specs.Line.{nearest_size}
use Rattle.numbers.specs.Nearest.{limit16, nearest16}
use Rattle.numbers.proofs.Differences.{whole, minus, at_most}
use Rattle.numbers.proofs.limits.LimitLaws.{limit_from, limit_to, limit_rises}
use Rattle.numbers.proofs.rounding.RealCases.{nothing}

-- a larger fraction is rounded to no smaller size
weighed : (n d e : ℕ) → (2 * n + d) * (2 * e) ≡ 4 * (n * e) + 2 * (d * e)
weighed n d e = omega (arith, add-mul (2 * n) d (2 * e), mul-mul-mul_comm 2 n 2 e, mul_left_comm d 2 e)

size_rises : (m d n e : ℕ) → 0 < d → 0 < e → m * e ≤ n * d → nearest_size m d ≤ nearest_size n e
unfolding nearest_size
size_rises m d n e p q h = div_mono (2 * m + d) (2 * d) (2 * n + e) (2 * e) (omega arith) (omega arith) (omega (arith, weighed m d e, weighed n e d, mul_comm d e))

-- a size with its sign
abbrev signed : Bool → ℕ → ℤ
signed negative size = first negative (neg_ℤ (pos size)) (pos size)

-- less, or equal by a test
at_most_told : (a b : ℕ) (e c : Bool) → (e ≡ true → a ≡ b) → (ltb a b || (e && c)) ≡ true → a ≤ b
at_most_told a b e c f h = by (ltb a b) refl h
  where
    by : (t : Bool) → ltb a b ≡ t → (t || (e && c)) ≡ true → a ≤ b
    by true q h = let l = ltb-true a b q in omega arith
    by false q h = let s = f ((and-eq-true_iff e c).0 h).0 in omega arith

module _ (m : ℕ) (e : ℤ) (n : ℕ) (d : ℤ) where
  -- the two fractions over one divisor, and what each is rounded to
  abbrev one : ℕ
  one = m * up e * down d

  abbrev other : ℕ
  other = n * up d * down e

  abbrev size : ℕ
  size = nearest_size (m * up e) (down e)

  abbrev size' : ℕ
  size' = nearest_size (n * up d) (down d)

  -- a fraction that is 0 over any divisor
  is_nothing : (a : ℕ) (b c : ℤ) → a * down c ≡ 0 → nearest_size a (down b) ≡ 0
  is_nothing a b c z = nothing a (down b) (down_pos b) (le_of_mul-le-mul_right {m = a} {n = 0} {k = down c} (omega arith) (down_pos c))

  no_larger : (s t : Bool) → le (fin s m e) (fin t n d) ≡ true → signed s size ≤ℤ signed t size'
  unfolding le lt eq first
  no_larger false false h =
      let l = size_rises (m * up e) (down e) (n * up d) (down d) (down_pos e) (down_pos d) (at_most_told one other (eqb one other) _ (eqb-true one other) h) in
      at_most (whole size) (whole size') (omega arith)
  no_larger false true h =
      let both = (and-eq-true_iff (eqb one other) (eqb one 0)).0 h in
      let zero : one ≡ 0 = eqb-true one 0 both.1 in
      let equal : one ≡ other = eqb-true one other both.0 in
      at_most (whole size) (minus (whole size')) (omega (arith, is_nothing (m * up e) e d zero, is_nothing (n * up d) d e (sym equal ∙ zero)))
  no_larger true false h = at_most (minus (whole size)) (whole size') (omega arith)
  no_larger true true h =
      let l = size_rises (n * up d) (down d) (m * up e) (down e) (down_pos d) (down_pos e) (at_most_told other one (eqb one other) _ (λ q. sym (eqb-true one other q)) h) in
      at_most (minus (whole size)) (minus (whole size')) (omega arith)

in_order : neg_ℤ (pos 32768) ≤ℤ pos 32767
in_order = at_most (minus (whole 32768)) (whole 32767) (omega arith)

pub nearest_rises : (r s : Float) → le r s ≡ true → nearest16 r ≤ℤ nearest16 s
unfolding le lt eq nearest16 limit16 first
nearest_rises nan s h = absurd (true≢false (sym h))
nearest_rises (inf a) nan h = absurd (true≢false (sym h))
nearest_rises (inf true) (inf true) h = ≤ℤ_refl (neg_ℤ (pos 32768))
nearest_rises (inf true) (inf false) h = in_order
nearest_rises (inf false) (inf true) h = absurd (true≢false (sym h))
nearest_rises (inf false) (inf false) h = ≤ℤ_refl (pos 32767)
nearest_rises (inf true) (fin t n d) h = limit_from _ (neg_ℤ (pos 32768)) (pos 32767) in_order
nearest_rises (inf false) (fin t n d) h = absurd (true≢false (sym h))
nearest_rises (fin s m e) nan h = absurd (true≢false (sym h))
nearest_rises (fin s m e) (inf true) h = absurd (true≢false (sym h))
nearest_rises (fin s m e) (inf false) h = limit_to _ (neg_ℤ (pos 32768)) (pos 32767) in_order
nearest_rises (fin s m e) (fin t n d) h = limit_rises (neg_ℤ (pos 32768)) (pos 32767) in_order (no_larger m e n d s t h)
