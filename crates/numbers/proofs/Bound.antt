-- Both ends of a line weighed: each product is at most 65535 times its weight, so the sum is at most 65535 times the divisor.
-- Assumes nothing.
use Prim.Native.Nat.{ℕ, ◌+◌, ◌-◌, ◌*◌, ◌<◌, ◌≤◌}
use mathlib.Core.Path.{refl}
use native.Mathlib.Nat.{mul-le-mul_right}
use native.Mathlib.Omega.{arith}
use Rattle.numbers.specs.Bound.{Fits32Bits}

share : {y : ℕ} (k : ℕ) → y < 65536 → y * k ≤ 65535 * k
share {y} k h = let g : y ≤ 65535 = omega arith in mul-le-mul_right k g

pub sum_at_most : {t d y1 y2 : ℕ} → t ≤ d → y1 < 65536 → y2 < 65536 → y1 * (d - t) + y2 * t ≤ 65535 * d
sum_at_most {t} {d} l h g = omega (arith, share (d - t) h, share t g)

pub fits_32_bits : Fits32Bits
fits_32_bits = (refl, λ t d y1 y2 l m h g. let s = sum_at_most l h g in (omega (arith, s), omega (arith, s)))
