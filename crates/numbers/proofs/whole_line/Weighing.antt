-- The line's exact value, counted from -32768: y1 (d - t) + y2 t over d, with t = x - x1 and d = x2 - x1, is what the definition rounds.
-- Assumes nothing.
use Prim.Native.Nat.{ℕ, ◌+◌, ◌-◌, ◌*◌, ◌≤◌}
use mathlib.Core.Path.{◌≡◌, ap, sym, ◌∙◌}
use native.Mathlib.Nat.{mul-add, mul_comm}
use native.Mathlib.Omega.{arith}
use lib.IntN.{ℤ, pos, nat_abs, ◌+ℤ◌, ◌-ℤ◌, ◌*ℤ◌, *ℤ_comm}
use Rattle.numbers.specs.Line.{nearest, between}
use Rattle.numbers.proofs.Differences.{Diff, same, shift, whole, plus, less, times, counts}

module _ {x1 y1 x2 y2 x : ℤ} {k1 j1 k2 j2 k : ℕ} (p1 : Diff x1 k1 32768) (q1 : Diff y1 j1 32768) (p2 : Diff x2 k2 32768) (q2 : Diff y2 j2 32768) (p : Diff x k 32768) (h : k1 ≤ k) (g : k ≤ k2) where
  run : x2 -ℤ x1 ≡ pos (k2 - k1)
  run = same (less p2 p1) (whole (k2 - k1)) (omega arith)

  part : x -ℤ x1 ≡ pos (k - k1)
  part = same (less p p1) (whole (k - k1)) (omega arith)

  -- the sums of products, one fact of ℕ: d j1 + t j2 counted with t j1 is t j1 more than the weighed sum
  weights : (d t : ℕ) → t ≤ d → d * j1 + t * (j2 + 32768) + 32768 * d ≡ j1 * (d - t) + j2 * t + (d * 32768 + t * (32768 + j1))
  weights d t l =
      let e : j1 * (d - t) + j1 * t ≡ j1 * d = sym (mul-add j1 (d - t) t) ∙ ap (λ (n : ℕ). j1 * n) (omega arith) in
      omega (arith, mul-add t j2 32768, mul-add t 32768 j1, mul_comm d j1, mul_comm t j1, mul_comm t j2)

  pub exact : Diff (y1 *ℤ (x2 -ℤ x1) +ℤ (x -ℤ x1) *ℤ (y2 -ℤ y1)) (j1 * ((k2 - k1) - (k - k1)) + j2 * (k - k1)) (32768 * (k2 - k1))
  exact =
      rw (run, part, *ℤ_comm y1 (pos (k2 - k1)))
      (shift (plus (times (k2 - k1) q1) (times (k - k1) (less q2 q1))) (weights (k2 - k1) (k - k1) (omega arith)))

  pub rounds : nearest (pos (j1 * ((k2 - k1) - (k - k1)) + j2 * (k - k1)) -ℤ pos (32768 * (k2 - k1))) (k2 - k1) ≡ between x1 y1 x2 y2 x
  unfolding between
  rounds =
      ap (λ (z : ℤ). nearest z (k2 - k1)) (counts exact)
      ∙ ap (λ (z : ℤ). nearest (y1 *ℤ (x2 -ℤ x1) +ℤ (x -ℤ x1) *ℤ (y2 -ℤ y1)) (nat_abs z)) (sym run)
