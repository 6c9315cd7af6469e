-- One tick: "Order: inputs, math, tables, logic, outputs, each by number, then 1001h."
-- Before it the signals are kept as they are found, and at its end the unit is told that there was one.
-- Assumes nothing.
use Rattle.std.specs.Prelude.{ℕ, ◌+◌, ◌-◌, List, ℤ, pos, get_or, set}
use Rattle.dictionary.specs.Unit.{signals_at, before_at, ticked_at}
use Rattle.unit.specs.Each.{each}
use Rattle.math.specs.Maths.{math_turn}
use Rattle.table.specs.Tables.{table_turn}
use Rattle.logic.specs.Logics.{logic_turn}
use Rattle.input.specs.Inputs.{input_turn}
use Rattle.output.specs.Outputs.{output_turn}
use Rattle.controller.specs.Register.{registered}

-- word n of the signals as they are found: "the state may keep those signals for this"
unfoldable pub recall : ℕ → List ℕ → List ℕ
recall n unit = set unit (before_at + (n - 1)) (get_or unit (signals_at + (n - 1)) 0)

unfoldable pub recalled : List ℕ → List ℕ
recalled unit = each 32 recall unit

unfoldable pub marked : List ℕ → List ℕ
marked unit = set unit ticked_at 1

-- "A tick takes four samples."
unfoldable pub ticked : List ℤ → List ℕ → List ℕ
ticked samples unit =
    let sensed = each 4 (λ n. input_turn (get_or samples (n - 1) (pos 0)) n) (recalled unit) in
    let combined = each 4 math_turn sensed in
    let tabled = each 6 table_turn combined in
    let selected = each 2 logic_turn tabled in
    let driven = each 4 output_turn selected in
    marked (registered driven)
