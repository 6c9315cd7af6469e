-- What a block saw of a pair (source, number) in a tick, told by the unit after it alone.
-- "A block that reads a later block, or itself, sees the last tick's signal".
-- Assumes nothing.
use Rattle.std.specs.Prelude.{ℕ, ◌+◌, ◌-◌, ◌*◌, Bool, not, ◌&&◌, List, eqb, ltb, get_or, Option, Some, None}
use Rattle.numbers.specs.Choice.{first}
use Rattle.dictionary.specs.Unit.{before_at}
use Rattle.signals.specs.Words.{of_words}
use Rattle.signals.specs.declared.signal.Signal.{Signal}
use Rattle.unit.specs.Held.{inputs, maths, tables, logics, blocks}
use Rattle.unit.specs.Sources.{sourced}
use Rattle.unit.specs.declared.pairs.Pair.{Pair}

-- the row of number n of the blocks that begin at a row, 16 where they have no such number
unfoldable pub among : ℕ → ℕ → ℕ → ℕ
among start count n = first (eqb n 0) blocks (first (ltb count n) blocks (start + n - 1))

-- "Sources: 0 none, 1 EC, 2 input PV, 3 table, 4 logic, 5 math, 6 constant": the row of the block that a pair names, 16 where it names none
unfoldable pub block_of : Pair → ℕ
block_of p =
    first (eqb p.source 2) (among inputs 4 p.number)
    (first (eqb p.source 3) (among tables 6 p.number)
    (first (eqb p.source 4) (among logics 2 p.number)
    (first (eqb p.source 5) (among maths 4 p.number)
    blocks)))

-- what the code calls it: a row, or none
unfoldable pub placed : ℕ → Option ℕ
placed row = first (ltb row blocks) (Some row) None

-- the signal at a row as the tick found it
unfoldable pub before_row : List ℕ → ℕ → Signal
before_row unit row = of_words (get_or unit (before_at + 2 * row) 0) (get_or unit (before_at + 2 * row + 1) 0)

-- "a signal taken from the last tick": of the block at row r itself, or of a later one
unfoldable pub taken_before : ℕ → ℕ → Bool
taken_before r q = not (ltb q r) && ltb q blocks

-- what the block at row r saw; the outputs are behind all rows
unfoldable pub saw : List ℕ → ℕ → Pair → Signal
saw unit r p = first (taken_before r (block_of p)) (before_row unit (block_of p)) (sourced unit p.source p.number)
