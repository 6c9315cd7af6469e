-- A math block in error with no input in error: a divisor was zero.
-- Assumes nothing.
use Prim.Native.Nat.{ℕ}
use mathlib.Core.Bool.{Bool, true, false, not, ◌&&◌, ◌||◌, and-eq-true_iff}
use mathlib.Core.Logic.{◌⊎◌, inl, inr}
use mathlib.Core.Path.{◌≡◌, refl, sym, ◌∙◌}
use native.Mathlib.Omega.{arith}
use borrow.Author.Tests.{eqb-true}
use lib.Dec.{eqb}
use lib.Ieee.{Float, eq}
use Rattle.numbers.specs.Choice.{first}
use Rattle.signals.specs.Signal.{is_error, is_absent, as_real}
use Rattle.signals.specs.declared.signal.Signal.{Signal}
use Rattle.signals.specs.declared.signal.Signal.TheVariants.{Whole, Real, Error, Absent}
use Rattle.signals.proofs.SignalLaws.{real_error}
use Rattle.math.specs.Math.{Running, at, broken, zero, scaled, operated_on, joined, joins, started, starts, ended, combined}
use Rattle.math.specs.declared.Operand.{Operand}
use Rattle.math.specs.declared.Ends.{Ends}
use Rattle.math.specs.Division.{Divides, ByDivision}

no_error : {A : Type 0} → Error ≡ Absent → A
no_error e = let z : ◌≡◌ {A = ℕ} 0 1 = cc in absurd (omega arith)

-- input 1 that is there and not in error starts a run
begins : (a : Operand) → is_error a.signal ≡ false → is_absent a.signal ≡ false → started a ≡ broken → ⊥
unfolding started starts as_real
begins a right there e = by a.signal right there e where
  by : (s : Signal) → is_error s ≡ false → is_absent s ≡ false → starts a (as_real s) ≡ broken → ⊥
  by (Whole v) r t e = let z : ◌≡◌ {A = ℕ} 0 1 = cc in omega arith
  by (Real x) r t e = let z : ◌≡◌ {A = ℕ} 0 1 = cc in omega arith
  by Error r t e = let z : ◌≡◌ {A = ℕ} 0 1 = cc in omega arith
  by Absent r t e = let z : ◌≡◌ {A = ℕ} 0 1 = cc in omega arith

divides : (operator : ℕ) (input : Operand) (x : Float) (t : Bool) {next : Running} → as_real input.signal ≡ Real x
    → (eqb operator 3 && eq (scaled x input.ends.from input.ends.to input.gain) zero) ≡ t → (next ≡ broken → ⊥) → first t broken next ≡ broken → Divides operator input
unfolding first
divides operator input x true is q sound e =
    let both = (and-eq-true_iff (eqb operator 3) (eq (scaled x input.ends.from input.ends.to input.gain) zero)).0 q in
    record { by = eqb-true operator 3 both.0; number = x; is = is; none = both.1 }
divides operator input x false is q sound e = absurd (sound e)

-- a run that an input breaks was broken before, or is divided by zero
breaks : (operator : ℕ) (input : Operand) (run : Running) → is_error input.signal ≡ false → joined operator input run ≡ broken → (run ≡ broken) ⊎ Divides operator input
unfolding joined joins operated_on first
breaks operator input run right e = by (as_real input.signal) refl (real_error input.signal ∙ right) run e where
  by : (s : Signal) → as_real input.signal ≡ s → is_error s ≡ false → (run : Running) → joins operator input run s ≡ broken → (run ≡ broken) ⊎ Divides operator input
  by (Whole v) is r run e = inl e
  by (Real x) is r broken e = inl refl
  by (Real x) is r (at f) e = inr (divides operator input x _ is refl (λ q. let z : ◌≡◌ {A = ℕ} 0 1 = cc in omega arith) e)
  by Error is r run e = let z : ◌≡◌ {A = ℕ} 0 1 = cc in absurd (omega arith)
  by Absent is r run e = inl e

-- only a broken run ends in error
ends_broken : (ends : Ends) (run : Running) → ended ends run ≡ Error → run ≡ broken
unfolding ended
ends_broken ends (at f) e = let z : ◌≡◌ {A = ℕ} 0 1 = cc in absurd (omega arith)
ends_broken ends broken e = refl

pub by_division : ByDivision
unfolding combined first
by_division enabled a b c d x y z ends wrong ra rb rc rd = on (not enabled || is_absent a.signal) refl wrong where
  there : (not enabled || is_absent a.signal) ≡ false → is_absent a.signal ≡ false
  there = split (not enabled) (is_absent a.signal) where
    split : (p q : Bool) → (p || q) ≡ false → q ≡ false
    split true q e = let z : ◌≡◌ {A = ℕ} 0 1 = cc in absurd (omega arith)
    split false q e = e

  second : (not enabled || is_absent a.signal) ≡ false → joined x b (started a) ≡ broken → Divides x b
  second off e = either (breaks x b (started a) rb e) where
    either : ((started a ≡ broken) ⊎ Divides x b) → Divides x b
    either (inl q) = absurd (begins a ra (there off) q)
    either (inr q) = q

  third : (not enabled || is_absent a.signal) ≡ false → joined y c (joined x b (started a)) ≡ broken → Divides x b ⊎ Divides y c
  third off e = either (breaks y c (joined x b (started a)) rc e) where
    either : ((joined x b (started a) ≡ broken) ⊎ Divides y c) → Divides x b ⊎ Divides y c
    either (inl q) = inl (second off q)
    either (inr q) = inr q

  fourth : (not enabled || is_absent a.signal) ≡ false → joined z d (joined y c (joined x b (started a))) ≡ broken → Divides x b ⊎ (Divides y c ⊎ Divides z d)
  fourth off e = either (breaks z d (joined y c (joined x b (started a))) rd e) where
    either : ((joined y c (joined x b (started a)) ≡ broken) ⊎ Divides z d) → Divides x b ⊎ (Divides y c ⊎ Divides z d)
    either (inl q) = side (third off q) where
      side : (Divides x b ⊎ Divides y c) → Divides x b ⊎ (Divides y c ⊎ Divides z d)
      side (inl s) = inl s
      side (inr s) = inr (inl s)
    either (inr q) = inr (inr q)

  on : (t : Bool) → (not enabled || is_absent a.signal) ≡ t → first t Absent (ended ends (joined z d (joined y c (joined x b (started a))))) ≡ Error → Divides x b ⊎ (Divides y c ⊎ Divides z d)
  on true off e = no_error (sym e)
  on false off e = fourth off (ends_broken ends _ e)
