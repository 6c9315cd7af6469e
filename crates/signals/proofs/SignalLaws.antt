-- What a signal read as REAL32 keeps, and what is known of one that has no REAL32.
-- Assumes nothing.
use mathlib.Core.Bool.{true}
use mathlib.Core.List.{[], ◌∷◌}
use mathlib.Core.Path.{◌≡◌, refl}
use lib.IntN.{ℤ}
use denote.Enum.Declared.{tag_of}
use types.Run.{OneOf, miss}
use Rattle.signals.specs.Signal.{is_error, is_absent, as_real}
use Rattle.signals.specs.declared.signal.Signal.{Signal}
use Rattle.signals.specs.declared.signal.Signal.TheVariants.{Whole, Real, Error, Absent}
use Rattle.signals.specs.contracts.signal.Signal as SignalType

pub real_twice : (s : Signal) → as_real (as_real s) ≡ as_real s
unfolding as_real
real_twice (Whole n) = refl
real_twice (Real x) = refl
real_twice Error = refl
real_twice Absent = refl

pub real_absent : (s : Signal) → is_absent (as_real s) ≡ is_absent s
unfolding as_real
real_absent (Whole n) = refl
real_absent (Real x) = refl
real_absent Error = refl
real_absent Absent = refl

pub real_error : (s : Signal) → is_error (as_real s) ≡ is_error s
unfolding as_real
real_error (Whole n) = refl
real_error (Real x) = refl
real_error Error = refl
real_error Absent = refl

-- an error is read as an error
pub error_read : (s : Signal) → is_error s ≡ true → as_real s ≡ Error
unfolding as_real
error_read (Whole n) e = cc
error_read (Real x) e = cc
error_read Error e = refl
error_read Absent e = cc

-- what the else of `let Signal::Real(x) = s` knows, by the case's number: what holds of the three other cases holds of s
abbrev pub NotReal : Signal → Type 0
NotReal s = OneOf (0 ∷ 2 ∷ 3 ∷ []) (tag_of SignalType.the_type s)

pub not_real : (P : Signal → Type 0) → ((n : ℤ) → P (Whole n)) → P Error → P Absent → (s : Signal) → NotReal s → P s
not_real P whole error absent (Whole n) k = whole n
not_real P whole error absent (Real x) k = absurd (miss (0 ∷ 2 ∷ 3 ∷ []) 1 tt k)
not_real P whole error absent Error k = error
not_real P whole error absent Absent k = absent
