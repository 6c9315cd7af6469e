-- Blocks that are off, or whose inputs are missing or in error.
-- Assumes nothing.
use Prim.Native.Nat.{ℕ, ◌+◌, ◌<◌}
use mathlib.Core.Bool.{Bool, true, false}
use mathlib.Core.List.{List}
use mathlib.Core.Logic.{◌⊎◌, inl, inr}
use mathlib.Core.Path.{◌≡◌, refl, ap, ◌∙◌}
use native.Mathlib.Omega.{arith}
use lib.IntN.{ℤ}
use lib.ListN.{length}
use Rattle.numbers.specs.Choice.{first}
use Rattle.dictionary.specs.Unit.{unit_size}
use Rattle.dictionary.proofs.naming.NameLaws.{counted}
use Rattle.signals.specs.Signal.{is_absent}
use Rattle.signals.specs.declared.signal.Signal.{Signal}
use Rattle.signals.specs.declared.signal.Signal.TheVariants.{Error, Absent}
use Rattle.signals.proofs.keeping.WordLaws as two-words
use Rattle.unit.specs.Entry.{entry, byte, switched}
use Rattle.unit.specs.Held.{maths, logics, held}
use Rattle.unit.proofs.HeldLaws.{laid_down}
use Rattle.unit.proofs.Slots.{has, array}
use Rattle.unit.proofs.sources.SourceLaws.{names_nothing}
use Rattle.unit.specs.Sources.{sourced}
use Rattle.math.specs.Math.{combined}
use Rattle.math.specs.Maths.{math_signal, math_turn}
use Rattle.math.specs.declared.Ends.{Ends}
use Rattle.math.specs.declared.Operand.{Operand}
use Rattle.math.proofs.MathLaws.{any_error}
use Rattle.table.specs.Table.{looked_up}
use Rattle.logic.specs.Logics.{chosen}
use Rattle.controller.specs.Off.{MathOff, MathError, TablePasses, LogicOff}
use Rattle.controller.specs.Tick.{ticked}
use Rattle.controller.specs.Turns.{at_turn}
use Rattle.controller.proofs.Made.{published_length, table_made}
use Rattle.controller.proofs.Saw.{config, math_saw, table_saw}
use Rattle.controller.proofs.Shown.{number_shown, logic_selects}
use Rattle.controller.proofs.TickLaws.{sized}
use Rattle.controller.proofs.Turns.{math_own}

-- what a math block makes, if it can be kept, is what it holds
math_holds : (samples : List ℤ) (unit : List ℕ) → length unit ≡ unit_size → (k : ℕ) → k < 4 → (s : Signal) → two-words.Kept s
    → math_signal (at_turn samples unit (maths + k)) (k + 1) ≡ s → held (ticked samples unit) maths (k + 1) ≡ s
unfolding math_turn
math_holds samples unit size k h s kept e =
    math_own samples unit k h
    ∙ rw e (laid_down _ maths (k + 1) s kept (published_length _ _ _ _ ∙ sized samples unit size (maths + k) (omega arith)) (omega arith))

nothing_made : (enabled : Bool) (a b c d : Operand) (x y z : ℕ) (ends : Ends) → (enabled ≡ false) ⊎ (is_absent a.signal ≡ true) → combined enabled a x b y c z d ends ≡ Absent
unfolding combined first
nothing_made enabled a b c d x y z ends (inl off) = rw off
nothing_made true a b c d x y z ends (inr none) = rw none
nothing_made false a b c d x y z ends (inr none) = refl

pub math_off : MathOff
math_off samples unit size k h off =
    math_holds samples unit size k h Absent two-words.Kept.absent (math_saw samples unit k h ∙ nothing_made _ _ _ _ _ _ _ _ _ off)

pub math_error : MathError
math_error samples unit size k h on there wrong =
    math_holds samples unit size k h Error two-words.Kept.error (math_saw samples unit k h ∙ rw on (any_error _ _ _ _ _ _ _ _ there wrong))

pub table_passes : TablePasses
unfolding looked_up
table_passes samples unit size k h =
    let made = table_made samples unit size k h ∙ table_saw samples unit k h in
    (λ e. made ∙ ap (looked_up _ _ _) e, λ e. made ∙ ap (looked_up _ _ _) e)

pub logic_off : LogicOff
unfolding chosen first switched byte has
logic_off samples unit size k h off =
    let same = config samples unit (logics + k) (omega arith) 0x4000 (k + 1) (omega (arith, array 0x4000 refl k h, counted)) in
    let none : entry (ticked samples unit) 0x4010 (k + 1) ≡ 0 = number_shown samples unit size k h ∙ rw (same, off) in
    (none, logic_selects samples unit size k h ∙ ap (sourced (ticked samples unit) 3) none ∙ names_nothing _ 3 0 (inl refl))
