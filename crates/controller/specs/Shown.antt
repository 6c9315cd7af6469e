-- What the output entries read after a tick, by the signals that the blocks hold: "Where a block's signal has no number, its output entry reads 0."
-- Assumes nothing.
use Rattle.std.specs.Prelude.{ℕ, ◌+◌, ◌<◌, List, ◌≡◌, ℤ, pos, get_or}
use Rattle.numbers.specs.Signed.{pattern16}
use Rattle.signals.specs.Signal.{as_real, whole}
use Rattle.signals.specs.Words.{number_of_signal}
use Rattle.unit.specs.Entry.{entry}
use Rattle.unit.specs.Held.{inputs, maths, tables, logics, held}
use Rattle.unit.specs.Sources.{sourced}
use Rattle.table.specs.Tables.{of_table}

-- blocks counted from k = 0
pub record Shown (samples : List ℤ) (after : List ℕ) : Type 0 where
  pub sampled : (k : ℕ) → k < 4 → entry after 0x7100 (k + 1) ≡ pattern16 (get_or samples k (pos 0))
  pub processed : (k : ℕ) → k < 4 → entry after 0x7130 (k + 1) ≡ pattern16 (whole (held after inputs (k + 1)))
  pub calculated : (k : ℕ) → k < 4 → entry after 0x4530 (k + 1) ≡ number_of_signal (as_real (held after maths (k + 1)))
  pub looked_up_lem : (k : ℕ) → k < 6 → entry after (of_table 0x3007 (k + 1)) 0 ≡ pattern16 (whole (held after tables (k + 1)))
  pub passed_on : (k : ℕ) → k < 2 → entry after 0x4020 (k + 1) ≡ pattern16 (whole (held after logics (k + 1)))
  -- "4010h is its table's number, the output that table's signal"
  pub selected : (k : ℕ) → k < 2 → held after logics (k + 1) ≡ sourced after 3 (entry after 0x4010 (k + 1))
