-- The six lookup tables in a tick.
-- Assumes nothing.
use Rattle.std.specs.Prelude.{ℕ, ◌+◌, ◌*◌, List, take, drop}
use Rattle.numbers.specs.Signed.{pattern16}
use Rattle.signals.specs.Signal as signals
use Rattle.signals.specs.declared.signal.Signal.{Signal}
use Rattle.dictionary.specs.Names.{slot_of}
use Rattle.table.specs.Table.{looked_up}
use Rattle.unit.specs.Entry.{byte, publish}
use Rattle.unit.specs.Held.{tables, lay}
use Rattle.unit.specs.Sources.{sourced}

-- "30z0h, z=1..6": an index of the family
abbrev pub of_table : ℕ → ℕ → ℕ
of_table index z = index + 0x10 * z

-- the words :1-11 of an array: they stand in order from the first
unfoldable pub eleven : List ℕ → ℕ → List ℕ
eleven unit index = take 11 (drop (slot_of index 1) unit)

-- the signal of table z; "30z0h, 30z1h X source; number", "30z4h: :2-11 response", "30z5h, 30z6h: X, Y"
unfoldable pub table_signal : List ℕ → ℕ → Signal
table_signal unit z =
    looked_up (eleven unit (of_table 0x3004 z)) (eleven unit (of_table 0x3005 z)) (eleven unit (of_table 0x3006 z))
    (sourced unit (byte unit (of_table 0x3000 z) 0) (byte unit (of_table 0x3001 z) 0))

-- 30z7h is the signal's whole number. "Where a block's signal has no number, its output entry reads 0."
unfoldable pub table_turn : ℕ → List ℕ → List ℕ
table_turn z unit =
    let signal = table_signal unit z in
    lay (publish unit (of_table 0x3007 z) 0 (pattern16 (signals.whole signal))) tables z signal
