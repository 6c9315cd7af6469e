-- One logic block, as the paper's paragraph "Logic" has it, with document 000's tables 27 to 29 where it points there.
-- Comparison numbers above 5 and operator numbers above 4 cannot be configured; here they count as 5 and 4. Assumes nothing.
use Rattle.std.specs.Prelude.{ℕ, Bool, true, false, ◌&&◌, ◌||◌, eqb, Float}
use Rattle.std.specs.Float.Ieee.{lt, le, eq, ne}
use Rattle.numbers.specs.Choice.{first}
use Rattle.signals.specs.Signal.{is_absent, as_real, whole}
use Rattle.signals.specs.declared.signal.Signal.{Signal}
use Rattle.signals.specs.declared.signal.Signal.TheVariants as signal
use Rattle.logic.specs.Digits.{in_same_digits}
use Rattle.logic.specs.declared.Verdict.{Verdict}
use Rattle.logic.specs.declared.Verdict.TheVariants.{False, True, Error, NotAvailable}

-- "0 =, 1 not =, 2 >, 3 >=, 4 <, 5 <="
unfoldable pub compares : ℕ → Float → Float → Bool
compares comparison x y =
    first (eqb comparison 0) (eq x y)
    (first (eqb comparison 1) (ne x y)
    (first (eqb comparison 2) (lt y x)
    (first (eqb comparison 3) (le y x)
    (first (eqb comparison 4) (lt x y)
    (le x y)))))

-- "else with an error argument, Error; else both numbers compared as REAL32 as they stand"
unfoldable pub compared_to : ℕ → Float → Signal → Verdict
compared_to comparison x (signal.Real y) = first (compares comparison x y) True False
compared_to comparison x (signal.Whole n) = Error
compared_to comparison x signal.Error = Error
compared_to comparison x signal.Absent = Error

unfoldable pub compared : ℕ → Signal → Signal → Verdict
compared comparison (signal.Real x) right = compared_to comparison x right
compared comparison (signal.Whole n) right = Error
compared comparison signal.Error right = Error
compared comparison signal.Absent right = Error

-- "A condition with a missing argument is N/A; else .."
unfoldable pub verdict : Signal → Signal → ℕ → Verdict
verdict left right comparison =
    first (is_absent left || is_absent right) NotAvailable (compared comparison (as_real left) (as_real right))

abbrev pub is_whole : Signal → Bool
is_whole (signal.Whole n) = true
is_whole (signal.Real x) = false
is_whole signal.Error = false
is_whole signal.Absent = false

-- document 02 (vii): "two whole-number arguments are compared as the decimal numbers they stand for .. A REAL32 argument is compared as
-- before"; d and e are the digits of the two
unfoldable pub judged : Signal → ℕ → Signal → ℕ → ℕ → Verdict
judged left d right e comparison =
    first (is_whole left && is_whole right)
    (first (in_same_digits comparison (whole left) d (whole right) e) True False)
    (verdict left right comparison)

-- "Error is false, and N/A is false in 2 to 4"
abbrev pub is_true : Verdict → Bool
is_true False = false
is_true True = true
is_true Error = false
is_true NotAvailable = false

-- in operator 1 "N/A counts as true"
abbrev pub allows : Verdict → Bool
allows False = false
allows True = true
allows Error = false
allows NotAvailable = true

-- "0 always; 1 all three; 2 any; 3 (1 and 2) or 3; 4 (1 or 2) and 3"
unfoldable pub holding : ℕ → Verdict → Verdict → Verdict → Bool
holding operator x y z =
    first (eqb operator 0) true
    (first (eqb operator 1) (allows x && allows y && allows z)
    (first (eqb operator 2) (is_true x || is_true y || is_true z)
    (first (eqb operator 3) (is_true x && is_true y || is_true z)
    ((is_true x || is_true y) && is_true z))))
