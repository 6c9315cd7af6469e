-- What a source has, as one number: where its signals begin in the row of blocks, times 16, and how many it has.
-- Assumes nothing.
use Rattle.std.specs.Prelude.{ℕ, ◌+◌, ◌*◌, eqb}
use Rattle.numbers.specs.Choice.{first}
use Rattle.unit.specs.Held.{inputs, maths, tables, logics}

unfoldable pub extent : ℕ → ℕ
extent source =
    first (eqb source 1) 12
    (first (eqb source 2) (16 * inputs + 4)
    (first (eqb source 3) (16 * tables + 6)
    (first (eqb source 4) (16 * logics + 2)
    (first (eqb source 5) (16 * maths + 4)
    (first (eqb source 6) 15
    0)))))
