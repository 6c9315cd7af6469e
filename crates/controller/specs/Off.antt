-- Blocks that are off, or whose inputs are missing or in error: what they hold after a tick, by what they saw. Blocks are counted from k = 0.
-- Assumes nothing.
use Rattle.std.specs.Prelude.{ℕ, ◌+◌, ◌<◌, true, false, ◌||◌, List, ◌⊎◌, ◌≡◌, ℤ, length}
use Rattle.dictionary.specs.Unit.{unit_size}
use Rattle.signals.specs.Signal.{is_error, is_absent}
use Rattle.signals.specs.declared.signal.Signal.TheVariants.{Error, Absent}
use Rattle.unit.specs.Entry.{entry, byte, switched}
use Rattle.unit.specs.Held.{maths, tables, logics, held}
use Rattle.table.specs.Tables.{of_table}
use Rattle.controller.specs.Tick.{ticked}
use Rattle.controller.specs.Turns.{seen, operand_seen}

-- "Disabled, or input 1 not available: not available."
abbrev pub MathOff : Type 0
MathOff =
    (samples : List ℤ) (unit : List ℕ) → length unit ≡ unit_size → (k : ℕ) → k < 4 → let after = ticked samples unit in
    (switched after 0x4500 (k + 1) ≡ false) ⊎ (is_absent (operand_seen unit after k 1).signal ≡ true) → held after maths (k + 1) ≡ Absent

-- "Any input error: error."
abbrev pub MathError : Type 0
MathError =
    (samples : List ℤ) (unit : List ℕ) → length unit ≡ unit_size → (k : ℕ) → k < 4 → let after = ticked samples unit in let input = operand_seen unit after k in
    switched after 0x4500 (k + 1) ≡ true → is_absent (input 1).signal ≡ false
    → (is_error (input 1).signal || is_error (input 2).signal || is_error (input 3).signal || is_error (input 4).signal) ≡ true → held after maths (k + 1) ≡ Error

-- "X in error or not available passes through."
abbrev pub TablePasses : Type 0
TablePasses =
    (samples : List ℤ) (unit : List ℕ) → length unit ≡ unit_size → (k : ℕ) → k < 6 → let after = ticked samples unit in
    let x = seen unit after (tables + k) (byte after (of_table 0x3000 (k + 1)) 0) (byte after (of_table 0x3001 (k + 1)) 0) in
    (x ≡ Error → held after tables (k + 1) ≡ Error) × (x ≡ Absent → held after tables (k + 1) ≡ Absent)

-- "disabled: 4010h is 0, not available."
abbrev pub LogicOff : Type 0
LogicOff =
    (samples : List ℤ) (unit : List ℕ) → length unit ≡ unit_size → (k : ℕ) → k < 2 → let after = ticked samples unit in
    switched after 0x4000 (k + 1) ≡ false → (entry after 0x4010 (k + 1) ≡ 0) × (held after logics (k + 1) ≡ Absent)
