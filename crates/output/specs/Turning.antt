-- Whether a signal turns an output on or off: the paragraph "Output" of "One tick".
-- Assumes nothing.
use Rattle.std.specs.Prelude.{ℕ, Bool, false, not, eqb, ℤ, pos, negsuc}
use Rattle.std.specs.Float.Ieee.{eq, of_bits}
use Rattle.std.specs.Float.{binary32}
use Rattle.numbers.specs.Choice.{first}
use Rattle.signals.specs.declared.signal.Signal.{Signal}
use Rattle.signals.specs.declared.signal.Signal.TheVariants.{Whole, Real, Error, Absent}

unfoldable pub is_zero : ℤ → Bool
is_zero (pos n) = eqb n 0
is_zero (negsuc n) = false

-- "On means a number not 0": a REAL32 counts as it stands, so -0 is off and 0.3 is on. What is no number of
-- REAL32 (NaN) is not equal to 0 and so is on; no block makes one.
unfoldable pub is_on : Signal → Bool
is_on (Whole v) = not (is_zero v)
is_on (Real x) = not (eq x (of_bits binary32 0))
is_on Error = false
is_on Absent = false

-- off: the number 0
unfoldable pub is_off : Signal → Bool
is_off (Whole v) = is_zero v
is_off (Real x) = eq x (of_bits binary32 0)
is_off Error = false
is_off Absent = false

-- "response 1 turns on and off round": only a number is on or off, so an error or a missing signal never is
unfoldable pub turned_on : ℕ → Signal → Bool
turned_on response s = first (eqb response 1) (is_off s) (is_on s)

unfoldable pub turned_off : ℕ → Signal → Bool
turned_off response s = first (eqb response 1) (is_on s) (is_off s)
