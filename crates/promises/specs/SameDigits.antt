-- What is promised of document 02 (vii), "Compare in the same digits".
-- Assumes nothing.
use Rattle.std.specs.Prelude.{ℕ, ◌+◌, ◌-◌, ◌<◌, ◌≤◌, List, ◌≡◌, Float, ℤ, pos, ◌*ℤ◌}
use Rattle.numbers.specs.Choice.{first}
use Rattle.signals.specs.declared.signal.Signal.{Signal}
use Rattle.signals.specs.declared.signal.Signal.TheVariants.{Whole, Real}
use Rattle.roles.specs.Values.{at_start}
use Rattle.unit.specs.Entry.{entry}
use Rattle.unit.specs.Held.{logics, held}
use Rattle.unit.specs.Sources.{sourced}
use Rattle.logic.specs.Digits.{tens, orders}
use Rattle.logic.specs.Logic.{verdict, judged}
use Rattle.logic.specs.declared.Verdict.TheVariants.{True, False}
use Rattle.promises.specs.Running.{Event, run, MadeOfBytes}

-- a decimal number of at most three digits is a whole number of thousandths: 125 with one digit is 12,500 of them, 130 with two is 1,300
unfoldable pub thousandths : ℤ → ℕ → ℤ
thousandths v digits = v *ℤ pos (tens (3 - digits))

-- "two whole-number arguments are compared as the decimal numbers they stand for, exactly"
abbrev pub SameDigits : Type 0
SameDigits =
    (v w : ℤ) (d e : ℕ) → d ≤ 3 → e ≤ 3 → (comparison : ℕ)
    → judged (Whole v) d (Whole w) e comparison ≡ first (orders comparison (thousandths v d) (thousandths w e)) True False

-- "A REAL32 argument is compared as before", on either side
abbrev pub RealsAsBefore : Type 0
RealsAsBefore =
    (x : Float) (other : Signal) (d e comparison : ℕ)
    → (judged (Real x) d other e comparison ≡ verdict (Real x) other comparison) × (judged other d (Real x) e comparison ≡ verdict other (Real x) comparison)

-- "a logic block uses those of the table that gave its signal, also where that signal is the last tick's": whatever came since the last tick, its
-- signal is the one that table 4010h gave in that tick
abbrev pub GivenByItsTable : Type 0
GivenByItsTable =
    (events : List Event) → MadeOfBytes events → (k : ℕ) → k < 2 → let unit = run events at_start in held unit logics (k + 1) ≡ sourced unit 3 (entry unit 0x4010 (k + 1))
