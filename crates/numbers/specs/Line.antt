-- The whole-number line through two points: "All whole-number lines round the exact value to nearest, halves away from zero."
-- Assumes nothing.
use Rattle.std.specs.Prelude.{ℕ, suc, ◌+◌, ◌*◌, ◌/◌, not, ℤ, pos, negsuc, neg_ℤ, nat_abs, ◌+ℤ◌, ◌-ℤ◌, ◌*ℤ◌}
use Rattle.numbers.specs.Choice.{first}
use Rattle.numbers.specs.Order.{below}

-- the whole number nearest to n / d, a half going up: (n / d) + 1/2, cut to a whole number
unfoldable pub nearest_size : ℕ → ℕ → ℕ
nearest_size n d = (2 * n + d) / (2 * d)

-- the whole number nearest to z / d, a half going away from zero: the size is rounded and keeps its sign
unfoldable pub nearest : ℤ → ℕ → ℤ
nearest (pos n) d = pos (nearest_size n d)
nearest (negsuc n) d = neg_ℤ (pos (nearest_size (suc n) d))

-- y1 + (x - x1)(y2 - y1) / (x2 - x1) over its one divisor x2 - x1, rounded: the value, never the increment
unfoldable pub between : ℤ → ℤ → ℤ → ℤ → ℤ → ℤ
between x1 y1 x2 y2 x = nearest (y1 *ℤ (x2 -ℤ x1) +ℤ (x -ℤ x1) *ℤ (y2 -ℤ y1)) (nat_abs (x2 -ℤ x1))

-- the line from (x1, y1) to (x2, y2) at x: at or before the first point its y, at or past the second its y, between them the line
unfoldable pub line_at : ℤ → ℤ → ℤ → ℤ → ℤ → ℤ
line_at x1 y1 x2 y2 x = first (not (below x1 x)) y1 (first (not (below x x2)) y2 (between x1 y1 x2 y2 x))
