-- What is promised of a tick of a unit whose configuration may stand, and so of every tick of a controller that runs.
-- Assumes nothing.
use Rattle.std.specs.Prelude.{ℕ, ◌+◌, ◌<◌, false, ◌≡◌, List, ℤ, pos, Float, length, get_or}
use Rattle.std.specs.Float.Ieee.{is_nan}
use Rattle.dictionary.specs.Unit.{unit_size}
use Rattle.signals.specs.declared.signal.Signal.{Signal}
use Rattle.signals.specs.declared.signal.Signal.TheVariants.{Real}
use Rattle.entries.specs.Valid.{Valid}
use Rattle.roles.specs.Values.{at_start}
use Rattle.input.specs.Input.{sensed}
use Rattle.unit.specs.Held.{inputs, maths, tables, logics, held}
use Rattle.unit.specs.Sources.{sourced}
use Rattle.input.specs.Inputs.{settings, memory}
use Rattle.math.specs.Maths.{math_signal}
use Rattle.table.specs.Sentence.{Sentence}
use Rattle.table.specs.Tables.{of_table, eleven, table_signal}
use Rattle.logic.specs.Logics.{chosen}
use Rattle.controller.specs.Tick.{ticked}
use Rattle.controller.specs.Commands.{Commanded}
use Rattle.controller.specs.Saw.{Saw}
use Rattle.controller.specs.Shown.{Shown}
use Rattle.controller.specs.Turns.{at_turn}
use Rattle.promises.specs.Running.{Event, run, MadeOfBytes}

-- the signals that the blocks make of a unit, blocks counted from k = 0
pub data Makes (unit : List ℕ) : Signal → Type 0 where
  input : (k : ℕ) (sample : ℤ) → Makes unit (sensed (settings unit (k + 1)) (memory unit (k + 1)) sample).signal
  math : (k : ℕ) → k < 4 → Makes unit (math_signal unit (k + 1))
  table : (k : ℕ) → Makes unit (table_signal unit (k + 1))
  logic : (k : ℕ) → Makes unit (sourced unit 3 (chosen unit (k + 1)))

-- no block makes a NaN
abbrev pub NoNan : Type 0
NoNan = (unit : List ℕ) → Valid unit → (signal : Signal) → Makes unit signal → (x : Float) → signal ≡ Real x → is_nan x ≡ false

-- "x <= X1 gives Y1; x > Xm gives Ym; else .." the interval before the least i: 30z5h is in order in every unit whose chains hold
abbrev pub TableSentence : Type 0
TableSentence =
    (unit : List ℕ) → Valid unit → (k : ℕ) → k < 6 → (x : ℤ)
    → Sentence (eleven unit (of_table 0x3004 (k + 1))) (eleven unit (of_table 0x3005 (k + 1))) (eleven unit (of_table 0x3006 (k + 1))) x

-- after a tick every block holds the signal that its own turn made
pub record Made (samples : List ℤ) (before after : List ℕ) : Type 0 where
  pub input : (k : ℕ) → k < 4 → let u = at_turn samples before (inputs + k) in
      held after inputs (k + 1) ≡ (sensed (settings u (k + 1)) (memory u (k + 1)) (get_or samples k (pos 0))).signal
  pub math : (k : ℕ) → k < 4 → held after maths (k + 1) ≡ math_signal (at_turn samples before (maths + k)) (k + 1)
  pub table : (k : ℕ) → k < 6 → held after tables (k + 1) ≡ table_signal (at_turn samples before (tables + k)) (k + 1)
  pub logic : (k : ℕ) → k < 2 → let u = at_turn samples before (logics + k) in held after logics (k + 1) ≡ sourced u 3 (chosen u (k + 1))

pub record Ticked (samples : List ℤ) (before after : List ℕ) : Type 0 where
  pub signals : Made samples before after
  -- the same by what it saw, of the blocks before it this tick's signals and of the others the last tick's
  pub saw : Saw samples before after
  -- its output entry shows it
  pub shown : Shown samples after
  -- and every output has the command of its rule
  pub commands : (k : ℕ) → k < 4 → Commanded before after (k + 1)

abbrev pub EachTick : Type 0
EachTick = (samples : List ℤ) (unit : List ℕ) → length unit ≡ unit_size → Valid unit → Ticked samples unit (ticked samples unit)

-- from the start, after any list of frames, ticks and images that are loaded
abbrev pub EveryTick : Type 0
EveryTick = (events : List Event) → MadeOfBytes events → (samples : List ℤ) → let unit = run events at_start in Ticked samples unit (ticked samples unit)
