-- What the code's runs stand for: pairs of entries that must rise, by the places of their data in an image.
-- Assumes nothing.
use Rattle.std.specs.Prelude.{ℕ, zero, suc, ◌+◌, Bool, not, List, [], ◌∷◌, ltb, ℤ, pos, length, take, drop}
use Rattle.octets.specs.Little.{little}
use Rattle.numbers.specs.Choice.{first}
use Rattle.numbers.specs.Order.{below}
use Rattle.numbers.specs.Signed.{signed16}
use Rattle.image.specs.declared.reading.order.Pair.{Pair}
use Rattle.image.specs.declared.reading.order.Run.{Run}

-- the INTEGER16 at a place; past the end it is 0
unfoldable pub number_at : List ℕ → ℕ → ℤ
number_at image at = first (ltb (at + 1) (length image)) (signed16 (little (take 2 (drop at image)))) (pos 0)

unfoldable pub rising : List ℕ → ℕ → ℕ → Bool → Bool
rising image lower upper strict =
    first strict (below (number_at image lower) (number_at image upper)) (not (below (number_at image upper) (number_at image lower)))

unfoldable pub rises : List ℕ → Pair → Bool
rises image p = rising image p.lower p.upper p.strict

-- pairs of records of nine bytes, so many
unfoldable pub run_from : ℕ → ℕ → Bool → ℕ → List Pair
run_from lower upper strict zero = []
run_from lower upper strict (suc n) = record { lower = lower; upper = upper; strict = strict } ∷ run_from (lower + 9) (upper + 9) strict n

unfoldable pub run_of : Run → List Pair
run_of run = run_from run.lower run.upper run.strict run.pairs
