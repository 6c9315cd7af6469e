-- The turns of a tick one by one, and what each block finds at its own: "A block that reads a later block, or itself, sees the last tick's
-- signal".
-- Assumes nothing.
use Rattle.std.specs.Prelude.{ℕ, ◌+◌, ◌-◌, ◌/◌, ◌<◌, ◌≤◌, List, ◌≡◌, ltb, ℤ, pos, get_or}
use Rattle.numbers.specs.Choice.{first}
use Rattle.signals.specs.Signal.{as_real}
use Rattle.signals.specs.declared.signal.Signal.{Signal}
use Rattle.unit.specs.Each.{each}
use Rattle.unit.specs.Entry.{whole, byte}
use Rattle.unit.specs.Held.{maths, blocks, at_row}
use Rattle.unit.specs.Extent.{extent}
use Rattle.unit.specs.Sources.{sourced}
use Rattle.math.specs.Maths.{of_math, math_turn}
use Rattle.math.specs.declared.Operand.{Operand}
use Rattle.table.specs.Tables.{table_turn}
use Rattle.logic.specs.Logics.{logic_turn}
use Rattle.input.specs.Inputs.{input_turn}
use Rattle.output.specs.Outputs.{output_turn}
use Rattle.controller.specs.Tick.{recalled, ticked}

-- turn n of the twenty: inputs 1-4, math 1-4, tables 1-6, logic 1-2, outputs 1-4
unfoldable pub turn_of : List ℤ → ℕ → List ℕ → List ℕ
turn_of samples n unit =
    first (ltb n 5) (input_turn (get_or samples (n - 1) (pos 0)) n unit)
    (first (ltb n 9) (math_turn (n - 4) unit)
    (first (ltb n 15) (table_turn (n - 8) unit)
    (first (ltb n 17) (logic_turn (n - 14) unit)
    (output_turn (n - 16) unit))))

abbrev pub turns : ℕ
turns = 20

-- the unit as the turns before it left it for row r; rows 16 to 19 are the outputs, which have no signal
unfoldable pub at_turn : List ℤ → List ℕ → ℕ → List ℕ
at_turn samples unit r = each r (turn_of samples) (recalled unit)

-- of every block before it a block sees this tick's signal, of itself and of every later block the last tick's
abbrev pub SeenBy : Type 0
SeenBy =
    (samples : List ℤ) (unit : List ℕ) (r q : ℕ) → r ≤ turns → q < blocks
    → (q < r → at_row (at_turn samples unit r) q ≡ at_row (ticked samples unit) q)
    × (r ≤ q → at_row (at_turn samples unit r) q ≡ at_row unit q)

-- the row of the block that a pair (source, number) names
unfoldable pub row_of : ℕ → ℕ → ℕ
row_of source number = extent source / 16 + number - 1

-- what a block at row r sees of a pair, by the units before and after the tick; an EC value or a constant no tick sets
unfoldable pub seen : List ℕ → List ℕ → ℕ → ℕ → ℕ → Signal
seen before after r source number = first (ltb (row_of source number) r) (sourced after source number) (sourced before source number)

abbrev pub SourcedBy : Type 0
SourcedBy =
    (samples : List ℤ) (unit : List ℕ) (r source number : ℕ) → r ≤ turns
    → sourced (at_turn samples unit r) source number ≡ seen unit (ticked samples unit) r source number

-- input i of math k + 1, as the block sees it
unfoldable pub operand_seen : List ℕ → List ℕ → ℕ → ℕ → Operand
operand_seen before after k i =
    record {
      signal = as_real (seen before after (maths + k) (byte after (of_math 0x4000 (k + 1)) i) (byte after (of_math 0x4001 (k + 1)) i));
      ends = record { from = whole after (of_math 0x4020 (k + 1)) i; to = whole after (of_math 0x4022 (k + 1)) i };
      gain = whole after (of_math 0x4040 (k + 1)) i;
    }
