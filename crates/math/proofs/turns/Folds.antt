-- One input more, as the loop takes them.
-- Assumes nothing.
use Prim.Native.Nat.{ℕ, zero, suc, ◌+◌, ◌-◌, ◌<◌}
use mathlib.Core.List.{List}
use mathlib.Core.Path.{◌≡◌}
use native.Mathlib.Numerals.{add-one}
use native.Mathlib.Omega.{arith}
use Rattle.math.specs.Math.{Running, joined}
use Rattle.math.specs.Maths.{operand, operator, joined_to}

pub joined_more : (unit : List ℕ) (n : ℕ) (run : Running) (i : ℕ) → 0 < i →
    joined_to unit n run (i + 1 - 1) ≡ joined (operator unit n i) (operand unit n (i + 1)) (joined_to unit n run (i - 1))
unfolding joined_to
joined_more unit n run zero h = absurd (omega arith)
joined_more unit n run (suc j) h =
    let a : suc j + 1 - 1 ≡ suc j = omega arith in
    let b : suc j - 1 ≡ j = omega arith in
    rw (a, b, add-one (suc j))
