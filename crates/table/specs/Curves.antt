-- What is promised of a table's curve: "For any table whose used Y values don't fall from point to point, a larger x never gives a smaller
-- output, for lines and jumps and equal X alike; and every output lies between the two Y values of its interval."
-- Nothing is asked of the X: equal X are among any X.
-- Assumes nothing.
use Rattle.std.specs.Prelude.{ℕ, ◌+◌, ◌-◌, ◌<◌, List, eqb, ℤ, ◌≤ℤ◌}
use Rattle.numbers.specs.Choice.{first}
use Rattle.table.specs.Table.{value, used, reaches, place, curve}

-- the values of the first m points "don't fall from point to point"
abbrev pub NotFalling : List ℕ → ℕ → Type 0
NotFalling words m = (k : ℕ) → k + 1 < m → value words k ≤ℤ value words (k + 1)

-- "a larger x never gives a smaller output"
abbrev pub NeverDips : Type 0
NeverDips = (response x y : List ℕ) → NotFalling y (used response) → (v w : ℤ) → v ≤ℤ w → curve response x y v ≤ℤ curve response x y w

-- the interval of an x, by the points at its ends: point i - 1 and point i; up to X1 the first point alone, beyond Xm the last used one alone
unfoldable pub begins_at : List ℕ → List ℕ → ℤ → ℕ
begins_at response x v = first (reaches x v 0) 0 (place response x v - 1)

unfoldable pub ends_at : List ℕ → List ℕ → ℤ → ℕ
ends_at response x v = first (reaches x v 0) 0 (first (eqb (place response x v) (used response)) (used response - 1) (place response x v))

-- between two numbers, whichever of them is larger
pub data Between (a b z : ℤ) : Type 0 where
  upward : a ≤ℤ z → z ≤ℤ b → Between a b z
  downward : b ≤ℤ z → z ≤ℤ a → Between a b z

-- "every output lies between the two Y values of its interval", for every table, also where Y falls
abbrev pub StaysBetween : Type 0
StaysBetween = (response x y : List ℕ) (v : ℤ) → Between (value y (begins_at response x v)) (value y (ends_at response x v)) (curve response x y v)
