-- A lookup table: the paragraph "Table" of "One tick". The eleven points stand in three lists of raw words, 30z4h:1-11 (axis type
-- and responses), 30z5h:1-11 (X) and 30z6h:1-11 (Y). A list's word k is the paper's sub-index k + 1; a word past its end is 0.
-- Assumes nothing.
use Rattle.std.specs.Prelude.{ℕ, zero, suc, ◌-◌, Bool, not, List, eqb, ℤ, get_or}
use Rattle.numbers.specs.Choice.{first}
use Rattle.numbers.specs.Line.{line_at}
use Rattle.numbers.specs.Nearest.{nearest16}
use Rattle.numbers.specs.Order.{below}
use Rattle.numbers.specs.Signed.{signed16}
use Rattle.signals.specs.declared.signal.Signal.{Signal}
use Rattle.signals.specs.declared.signal.Signal.TheVariants.{Whole, Real, Error, Absent}

-- the least of the n numbers k, k + 1, .. at which the test holds; k + n where it holds at none
unfoldable pub least : (ℕ → Bool) → ℕ → ℕ → ℕ
least test k zero = k
least test k (suc n) = first (test k) k (least test (suc k) n)

-- the X or Y of a point
unfoldable pub value : List ℕ → ℕ → ℤ
value words k = signed16 (get_or words k 0)

-- response 0 at this point
unfoldable pub unused : List ℕ → ℕ → Bool
unused response k = eqb (get_or response k 0) 0

-- m, how many points are used: "those before the first response 0". The first word is the axis type and no response.
unfoldable pub used : List ℕ → ℕ
used response = least (unused response) 1 10

-- v <= X of this point
unfoldable pub reaches : List ℕ → ℤ → ℕ → Bool
reaches x v k = not (below (value x k) v)

-- "the least i where x <= Xi" of the used points after the first; their number where there is none
unfoldable pub place : List ℕ → List ℕ → ℤ → ℕ
place response x v = least (reaches x v) 1 (used response - 1)

-- "response 1 is the line from point i-1 to i, response 2 is Yi"; so is any other response
unfoldable pub interval : List ℕ → List ℕ → List ℕ → ℤ → ℕ → ℤ
interval response x y v k =
    first (eqb (get_or response k 0) 1)
    (line_at (value x (k - 1)) (value y (k - 1)) (value x k) (value y k) v)
    (value y k)

-- "x <= X1 gives Y1; x > Xm gives Ym; else .." the interval before the least i. That no used point is reached is x > Xm where the
-- X rise, which the chain of 30z5h says (`TableLaws`: `sentence`).
unfoldable pub curve : List ℕ → List ℕ → List ℕ → ℤ → ℤ
curve response x y v =
    first (reaches x v 0) (value y 0)
    (first (eqb (place response x v) (used response)) (value y (used response - 1))
    (interval response x y v (place response x v)))

-- "X in error or not available passes through. A REAL32 becomes INTEGER16 by nearest, halves away from zero, limited": the table's
-- signal is a whole number
unfoldable pub looked_up : List ℕ → List ℕ → List ℕ → Signal → Signal
looked_up response x y (Whole v) = Whole (curve response x y v)
looked_up response x y (Real r) = Whole (curve response x y (nearest16 r))
looked_up response x y Error = Error
looked_up response x y Absent = Absent
