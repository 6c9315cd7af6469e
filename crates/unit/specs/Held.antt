-- The signals that the unit keeps behind the dictionary's words: "A block that reads a later block, or itself, sees the last tick's signal".
-- Assumes nothing.
use Rattle.std.specs.Prelude.{ℕ, ◌+◌, ◌-◌, ◌*◌, List, ltb, get_or, set}
use Rattle.numbers.specs.Choice.{first}
use Rattle.dictionary.specs.Unit.{signals_at}
use Rattle.signals.specs.Words.{kind_of, number_of_signal, of_words}
use Rattle.signals.specs.declared.signal.Signal.{Signal}

-- The signals stand in one row: inputs 1-4, math 1-4, tables 1-6, logic 1-2. Where each kind begins:
abbrev pub inputs : ℕ
inputs = 0

abbrev pub maths : ℕ
maths = 4

abbrev pub tables : ℕ
tables = 8

abbrev pub logics : ℕ
logics = 14

abbrev pub blocks : ℕ
blocks = 16

-- the slot of a signal's kind; its number stands behind it
unfoldable pub place : ℕ → ℕ
place row = signals_at + 2 * row

-- the signal at a row, and the unit with another one there; a row past the last is no block's
unfoldable pub at_row : List ℕ → ℕ → Signal
at_row unit row = of_words (get_or unit (place row) 0) (get_or unit (place row + 1) 0)

unfoldable pub laid : List ℕ → ℕ → Signal → List ℕ
laid unit row signal =
    first (ltb row blocks) (set (set unit (place row) (kind_of signal)) (place row + 1) (number_of_signal signal)) unit

-- the signal of a kind's block n, and the unit with another one there
unfoldable pub held : List ℕ → ℕ → ℕ → Signal
held unit kind n = at_row unit (kind + (n - 1))

unfoldable pub lay : List ℕ → ℕ → ℕ → Signal → List ℕ
lay unit kind n signal = laid unit (kind + (n - 1)) signal
