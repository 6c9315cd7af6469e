-- The signal that a pair (source, number) names.
-- Assumes nothing.
use Rattle.std.specs.Prelude.{ℕ, List, eqb, ltb}
use Rattle.numbers.specs.Choice.{first}
use Rattle.signals.specs.declared.signal.Signal.{Signal}
use Rattle.signals.specs.declared.signal.Signal.TheVariants.{Whole, Real, Absent}
use Rattle.unit.specs.Entry.{whole, real}
use Rattle.unit.specs.Held.{inputs, maths, tables, logics, held}

-- a number from 1 to the count names something, any other nothing
unfoldable pub among : ℕ → ℕ → Signal → Signal
among count number signal = first (eqb number 0) Absent (first (ltb count number) Absent signal)

-- "Sources: 0 none, 1 EC, 2 input PV, 3 table, 4 logic, 5 math, 6 constant; a pair that names nothing is not available."
-- The unit keeps this tick's signals of the blocks that were before and the last tick's of all others:
-- "A block that reads a later block, or itself, sees the last tick's signal."
unfoldable pub sourced : List ℕ → ℕ → ℕ → Signal
sourced unit source number =
    first (eqb source 1) (among 12 number (Whole (whole unit 0x2500 number)))
    (first (eqb source 2) (among 4 number (held unit inputs number))
    (first (eqb source 3) (among 6 number (held unit tables number))
    (first (eqb source 4) (among 2 number (held unit logics number))
    (first (eqb source 5) (among 4 number (held unit maths number))
    (first (eqb source 6) (among 15 number (Real (real unit 0x5010 number)))
    Absent)))))
