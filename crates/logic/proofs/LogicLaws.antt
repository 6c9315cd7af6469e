-- A condition judges its two arguments as REAL32, two whole numbers apart.
-- Assumes nothing.
use Prim.Native.Nat.{ℕ}
use mathlib.Core.Bool.{true}
use mathlib.Core.List.{[], ◌∷◌}
use mathlib.Core.Path.{◌≡◌, refl}
use denote.Enum.Declared.{tag_of}
use types.Run.{OneOf, miss}
use lib.Ieee.{Float}
use lib.IntN.{ℤ}
use Rattle.numbers.specs.Choice.{first}
use Rattle.signals.specs.Signal.{is_absent, as_real}
use Rattle.signals.specs.declared.signal.Signal.{Signal}
use Rattle.signals.specs.declared.signal.Signal.TheVariants as signal
use Rattle.signals.specs.contracts.signal.Signal as SignalType
use Rattle.signals.proofs.SignalLaws.{NotReal, not_real, real_twice, real_absent}
use Rattle.logic.specs.Logic.{compared, compared_to, verdict, judged}
use Rattle.logic.specs.declared.Verdict.TheVariants.{Error, NotAvailable}

-- one without a number is in error: a missing one was asked for before
pub no_left : (comparison : ℕ) (left right : Signal) {s : Signal} → s ≡ as_real left → NotReal s → Error ≡ compared comparison (as_real left) right
unfolding compared
no_left comparison left right {s} e k = rw (← e) (not_real (λ (t : Signal). Error ≡ compared comparison t right) (λ (n : ℤ). refl) refl refl s k)

pub no_right : (comparison : ℕ) (x : Float) (right : Signal) {s : Signal} → s ≡ as_real right → NotReal s → Error ≡ compared_to comparison x (as_real right)
unfolding compared_to
no_right comparison x right {s} e k = rw (← e) (not_real (λ (t : Signal). Error ≡ compared_to comparison x t) (λ (n : ℤ). refl) refl refl s k)

-- a caller may hand in a signal that was read as REAL32 before
pub verdict_real : (left right : Signal) (comparison : ℕ) → verdict left (as_real right) comparison ≡ verdict left right comparison
unfolding verdict
verdict_real left right comparison = rw (real_twice right, real_absent right)

-- without its first argument a condition needs no second, and no digits
pub judged_absent : (left right : Signal) (d e comparison : ℕ) → is_absent left ≡ true → judged left d right e comparison ≡ NotAvailable
unfolding judged verdict first
judged_absent (signal.Whole n) right d e comparison h = cc
judged_absent (signal.Real x) right d e comparison h = cc
judged_absent signal.Error right d e comparison h = cc
judged_absent signal.Absent right d e comparison h = refl

-- "A REAL32 argument is compared as before", and so is one without a number: what the else of `let Signal::Whole(v) = left` knows
abbrev pub NotWhole : Signal → Type 0
NotWhole s = OneOf (1 ∷ 2 ∷ 3 ∷ []) (tag_of SignalType.the_type s)

pub as_before : (left right : Signal) (d e comparison : ℕ) → NotWhole left → judged left d right e comparison ≡ verdict left right comparison
unfolding judged first
as_before (signal.Whole n) right d e comparison k = absurd (miss (1 ∷ 2 ∷ 3 ∷ []) 0 tt k)
as_before (signal.Real x) right d e comparison k = refl
as_before signal.Error right d e comparison k = refl
as_before signal.Absent right d e comparison k = refl
