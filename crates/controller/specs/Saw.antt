-- The signals of inputs, math blocks and tables after a tick, by what each saw: no unit but those before and after the tick is named.
-- Assumes nothing.
use Rattle.std.specs.Prelude.{ℕ, ◌+◌, ◌<◌, List, ◌≡◌, ℤ, pos, get_or}
use Rattle.input.specs.Input.{kept, process, signal_of}
use Rattle.input.specs.Inputs.{settings, memory}
use Rattle.math.specs.Math.{combined}
use Rattle.table.specs.Table.{looked_up}
use Rattle.unit.specs.Entry.{byte, switched}
use Rattle.unit.specs.Held.{inputs, maths, tables, held}
use Rattle.math.specs.Maths.{operator, ends}
use Rattle.table.specs.Tables.{of_table, eleven}
use Rattle.controller.specs.Turns.{seen, operand_seen}

pub record Saw (samples : List ℤ) (before after : List ℕ) : Type 0 where
  pub remembered : (k : ℕ) → k < 4 → memory after (k + 1) ≡ kept (settings after (k + 1)) (memory before (k + 1)) (get_or samples k (pos 0))
  -- "Flagged: signal is error"
  pub input : (k : ℕ) → k < 4 → held after inputs (k + 1) ≡ signal_of (memory after (k + 1)).flagged (process (settings after (k + 1)) (get_or samples k (pos 0)))
  pub math : (k : ℕ) → k < 4 → held after maths (k + 1) ≡
      combined (switched after 0x4500 (k + 1))
      (operand_seen before after k 1)
      (operator after (k + 1) 1)
      (operand_seen before after k 2)
      (operator after (k + 1) 2)
      (operand_seen before after k 3)
      (operator after (k + 1) 3)
      (operand_seen before after k 4)
      (ends after (k + 1))
  pub table : (k : ℕ) → k < 6 → held after tables (k + 1) ≡
      looked_up (eleven after (of_table 0x3004 (k + 1))) (eleven after (of_table 0x3005 (k + 1))) (eleven after (of_table 0x3006 (k + 1)))
      (seen before after (tables + k) (byte after (of_table 0x3000 (k + 1)) 0) (byte after (of_table 0x3001 (k + 1)) 0))
