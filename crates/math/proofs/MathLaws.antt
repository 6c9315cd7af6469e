-- The fold of the math block: what its struct holds of the running result, and what an input without a number does to it.
-- Assumes nothing.
use Prim.Native.Nat.{ℕ}
use mathlib.Core.Bool.{Bool, true, false, ◌||◌}
use mathlib.Core.Path.{◌≡◌, refl, ap, sym, ◌∙◌}
use lib.Ieee.{Float}
use lib.IntN.{ℤ}
use Rattle.numbers.specs.Choice.{first}
use Rattle.signals.specs.Signal.{is_error, is_absent, as_real}
use Rattle.signals.specs.declared.signal.Signal.{Signal}
use Rattle.signals.specs.declared.signal.Signal.TheVariants.{Whole, Real, Error, Absent}
use Rattle.signals.proofs.SignalLaws.{NotReal, not_real, real_error, error_read}
use Rattle.math.specs.Fold.{running, resumed}
use Rattle.math.specs.Math.{Running, at, broken, started, starts, joined, joins, operated_on, ended, combined}
use Rattle.math.specs.declared.Operand.{Operand}
use Rattle.math.specs.declared.Ends.{Ends}
use Rattle.math.specs.declared.Fold.{Fold}

-- ---- the struct and the running result
-- a fold that took a running result up holds it
pub taken : (fold : Fold) (run : Running) → running (resumed fold run) ≡ run
unfolding running resumed first
taken fold (at run) = refl
taken fold broken = refl

-- a fold that takes its own running result up stays as it is
marked : (fold : Fold) {t : Bool} → fold.failed ≡ t → record { run = fold.run; gain = fold.gain; ends = fold.ends; failed = t } ≡ fold
marked fold e = ap (λ (t : Bool). record { run = fold.run; gain = fold.gain; ends = fold.ends; failed = t }) (sym e)

pub unchanged : (fold : Fold) → resumed fold (running fold) ≡ fold
unfolding running resumed first
unchanged fold = by fold.failed refl where
  by : (t : Bool) → fold.failed ≡ t → resumed fold (first t broken (at fold.run)) ≡ fold
  by true e = marked fold e
  by false e = marked fold e

-- once broken, always broken
pub stays_broken : (operator : ℕ) (x : Float) (fold : Fold) → fold.failed ≡ true → fold ≡ resumed fold (operated_on operator x (running fold))
unfolding running resumed operated_on first
stays_broken operator x fold e =
    sym (marked fold e) ∙ ap (λ (t : Bool). resumed fold (operated_on operator x (first t broken (at fold.run)))) (sym e)

-- ---- an input without a number
pub unstarted : (input : Operand) {s : Signal} → s ≡ as_real input.signal → NotReal s → started input ≡ broken
unfolding started starts
unstarted input {s} e k = ap (starts input) (sym e) ∙ not_real (λ (t : Signal). starts input t ≡ broken) (λ (n : ℤ). refl) refl refl s k

pub passed : (operator : ℕ) (input : Operand) (run : Running) {s : Signal} → s ≡ as_real input.signal → NotReal s →
    joined operator input run ≡ first (is_error input.signal) broken run
unfolding joined joins first
passed operator input run {s} e k =
    ap (joins operator input run) (sym e) ∙
    not_real (λ (t : Signal). joins operator input run t ≡ first (is_error t) broken run) (λ (n : ℤ). refl) refl refl s k ∙
    ap (λ (t : Bool). first t broken run) (ap is_error e ∙ real_error input.signal)

-- ---- "Any input error: error"
once_broken : (operator : ℕ) (input : Operand) → joined operator input broken ≡ broken
unfolding joined joins operated_on
once_broken operator input = by (as_real input.signal) where
  by : (s : Signal) → joins operator input broken s ≡ broken
  by (Whole n) = refl
  by (Real x) = refl
  by Error = refl
  by Absent = refl

started_wrong : (input : Operand) → is_error input.signal ≡ true → started input ≡ broken
unfolding started starts
started_wrong input e = rw (error_read input.signal e)

joined_wrong : (operator : ℕ) (input : Operand) (run : Running) → is_error input.signal ≡ true → joined operator input run ≡ broken
unfolding joined joins
joined_wrong operator input run e = rw (error_read input.signal e)

pub any_error : (a b c d : Operand) (x y z : ℕ) (ends : Ends) → is_absent a.signal ≡ false →
    (is_error a.signal || is_error b.signal || is_error c.signal || is_error d.signal) ≡ true →
    combined true a x b y c z d ends ≡ Error
unfolding combined ended first
any_error a b c d x y z ends there wrong =
    rw there (by (is_error a.signal) (is_error b.signal) (is_error c.signal) (is_error d.signal) refl refl refl refl wrong) where
      by : (p q r s : Bool) → is_error a.signal ≡ p → is_error b.signal ≡ q → is_error c.signal ≡ r → is_error d.signal ≡ s →
          (p || q || r || s) ≡ true → ended ends (joined z d (joined y c (joined x b (started a)))) ≡ Error
      by true q r s e f g h w = simp (started_wrong a e, once_broken)
      by false true r s e f g h w = simp (joined_wrong x b (started a) f, once_broken)
      by false false true s e f g h w = simp (joined_wrong y c (joined x b (started a)) g, once_broken)
      by false false false true e f g h w = simp (joined_wrong z d (joined y c (joined x b (started a))) h)
      by false false false false e f g h w = cc
