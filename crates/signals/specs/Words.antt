-- A signal as two words keep it from tick to tick: its kind, and its number.
-- Assumes nothing.
use Rattle.std.specs.Prelude.{ℕ, eqb, Float}
use Rattle.std.specs.Float.{binary32}
use Rattle.std.specs.Float.Ieee.{of_bits, to_bits, nan_bits, eq}
use Rattle.numbers.specs.Choice.{first}
use Rattle.numbers.specs.Signed.{signed16, pattern16}
use Rattle.signals.specs.declared.signal.Signal.{Signal}
use Rattle.signals.specs.declared.signal.Signal.TheVariants.{Whole, Real, Error, Absent}

-- 0 is not available, so a unit of zeros holds no signal
unfoldable pub kind_of : Signal → ℕ
kind_of (Whole n) = 1
kind_of (Real x) = 2
kind_of Error = 3
kind_of Absent = 0

-- an INTEGER16 by its pattern, a REAL32 by its bits; 0 where there is no number, or where the REAL32 is none (NaN, which no block makes)
unfoldable pub number_of_signal : Signal → ℕ
number_of_signal (Whole n) = pattern16 n
number_of_signal (Real x) = first (eq x x) (to_bits binary32 x) 0
number_of_signal Error = 0
number_of_signal Absent = 0

-- a REAL32 from its bits; a pattern that is no number, which row 7 of "Frames" refuses, counts as 0.0
unfoldable pub real_of : ℕ → Float
real_of word = first (nan_bits binary32 word) (of_bits binary32 0) (of_bits binary32 word)

-- the signal of two words; any other kind is not available
unfoldable pub of_words : ℕ → ℕ → Signal
of_words kind number =
    first (eqb kind 1) (Whole (signed16 number))
    (first (eqb kind 2) (Real (real_of number))
    (first (eqb kind 3) Error Absent))
