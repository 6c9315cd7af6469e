-- Signals: "A signal is a whole number, a REAL32, an error or not available."
-- Assumes nothing.
use Rattle.std.specs.Prelude.{Bool, true, false, ℤ, pos}
use Rattle.std.specs.Float.{binary32}
use Rattle.std.specs.Float.Ieee.{of_int}
use Rattle.numbers.specs.Nearest.{nearest16}
use Rattle.signals.specs.declared.signal.Signal.{Signal}
use Rattle.signals.specs.declared.signal.Signal.TheVariants.{Whole, Real, Error, Absent}

abbrev pub is_error : Signal → Bool
is_error (Whole n) = false
is_error (Real x) = false
is_error Error = true
is_error Absent = false

abbrev pub is_absent : Signal → Bool
is_absent (Whole n) = false
is_absent (Real x) = false
is_absent Error = false
is_absent Absent = true

-- a whole number as its REAL32, which holds 16 bits exactly; all else as it is
unfoldable pub as_real : Signal → Signal
as_real (Whole n) = Real (of_int binary32 n)
as_real (Real x) = Real x
as_real Error = Error
as_real Absent = Absent

-- "A REAL32 becomes INTEGER16 by nearest"; 0 stands for what has no number: "Where a block's signal has no number, its output entry reads 0"
unfoldable pub whole : Signal → ℤ
whole (Whole v) = v
whole (Real x) = nearest16 x
whole Error = pos 0
whole Absent = pos 0
