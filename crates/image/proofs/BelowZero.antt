-- A number told below zero, as the code computes it.
-- Assumes nothing.
use mathlib.Core.Path.{◌≡◌}
use Prim.Native.Nat.{ℕ, zero, suc, ◌<◌}
use native.Mathlib.Omega.{arith}
use lib.IntN.{pos, neg_ℤ, ◌-ℤ◌, +ℤ_idl}
use mir.Syntax.{w32}
use mir.Val.{SFits, to_z, of_z}
use mir.Facts.{to_z-of_z}

fits : (n : ℕ) → n < 2147483648 → SFits w32 (neg_ℤ (pos n))
fits zero h = record { sfits = omega arith }
fits (suc n) h = record { sfits = omega arith }

pub below_zero : (n : ℕ) → n < 2147483648 → to_z w32 (of_z w32 (pos 0 -ℤ to_z w32 (of_z w32 (pos n)))) ≡ neg_ℤ (pos n)
below_zero n h =
    rw (to_z-of_z {w = w32} {z = pos n} (record { sfits = omega arith }), +ℤ_idl (neg_ℤ (pos n)))
    (to_z-of_z (fits n h))
