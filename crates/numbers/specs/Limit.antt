-- Limits, of whole numbers and of REAL32: "A limit replaces only a value beyond it, so -0 stays."
-- Assumes nothing.
use Rattle.std.specs.Prelude.{Bool, ℤ, Float}
use Rattle.std.specs.Float.Ieee.{lt}
use Rattle.numbers.specs.Choice.{first}
use Rattle.numbers.specs.Order.{below}

-- below low it is low, above high it is high, else the value itself
unfoldable pub limit_whole : ℤ → ℤ → ℤ → ℤ
limit_whole v low high = first (below v low) low (first (below high v) high v)

-- the same by REAL32's own comparisons: -0 is not below +0, and what is no number is beyond no limit
unfoldable pub limit_real : Float → Float → Float → Float
limit_real v low high = first (lt v low) low (first (lt high v) high v)

-- the same by any order that is given as its test
unfoldable pub limited : {A : Type 0} → (A → A → Bool) → A → A → A → A
limited is_below v low high = first (is_below v low) low (first (is_below high v) high v)
