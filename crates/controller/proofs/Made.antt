-- After a tick every block holds the signal that its own turn made. Blocks are counted from k = 0.
-- Assumes nothing.
use Prim.Native.Nat.{ℕ, ◌+◌, ◌-◌, ◌<◌}
use mathlib.Core.Bool.{Bool}
use mathlib.Core.List.{List}
use mathlib.Core.Path.{◌≡◌, refl, ap, ◌∙◌}
use native.Mathlib.Omega.{arith}
use lib.IntN.{ℤ, pos}
use lib.ListN.{length, get_or, length-set}
use Rattle.numbers.specs.Signed.{signed16}
use Rattle.dictionary.specs.Names.{slot_of, received_to}
use Rattle.dictionary.specs.Unit.{signals_at, runs_at, flags_at, unit_size}
use Rattle.dictionary.proofs.naming.NameLaws.{counted}
use Rattle.unit.specs.Entry.{entry, whole, publish}
use Rattle.unit.specs.Held.{inputs, maths, tables, logics, place, held}
use Rattle.unit.proofs.HeldLaws.{laid_down}
use Rattle.unit.proofs.Slots.{has, have, array, math_array}
use Rattle.unit.specs.Sources.{sourced}
use Rattle.math.specs.Maths.{of_math, math_signal, math_turn}
use Rattle.table.specs.Tables.{table_signal, table_turn}
use Rattle.logic.specs.Logics.{chosen, logic_turn}
use Rattle.input.specs.Errors.{noted}
use Rattle.input.specs.Inputs.{settings, memory, remember, input_turn}
use Rattle.input.specs.Input.{sensed}
use Rattle.input.specs.declared.Memory.{Memory}
use Rattle.controller.specs.Tick.{ticked}
use Rattle.controller.specs.TickLaws.{before}
use Rattle.controller.specs.Turns.{at_turn}
use Rattle.controller.proofs.Kept.{fixed_last, kept_last, joined, noted_keeps, remember_keeps, held_kept}
use Rattle.controller.proofs.Numbers.{Rising, input_number, math_number, table_number, sourced_kept}
use Rattle.controller.proofs.Turns.{input_own, math_own, table_own, logic_own}
use Rattle.controller.proofs.TickLaws.{Tame, tame, sized}

pub published_length : (u : List ℕ) (index sub word : ℕ) → length (publish u index sub word) ≡ length u
unfolding publish
published_length u index sub word = length-set u (slot_of index sub) word

same_whole : {u v : List ℕ} → Tame u v → (index sub : ℕ) → slot_of index sub < received_to → whole v index sub ≡ whole u index sub
unfolding whole entry
same_whole kept index sub h = ap signed16 (kept (slot_of index sub) (before h)).word

-- the chains of math k + 1 stand in the configuration
rising : {u v : List ℕ} → Tame u v → (k : ℕ) → k < 4 → Rising u (k + 1) → Rising v (k + 1)
unfolding has have
rising kept k h r =
    record {
      inputs = λ i g.
          rw (
            same_whole kept (of_math 0x4020 (k + 1)) (i + 1) (omega (arith, math_array 0x4020 refl k h i g, counted)),
            same_whole kept (of_math 0x4022 (k + 1)) (i + 1) (omega (arith, math_array 0x4022 refl k h i g, counted)),
          ) (r.inputs i g);
      ends =
          rw (
            same_whole kept 0x4521 (k + 1) (omega (arith, array 0x4521 refl k h, counted)),
            same_whole kept 0x4523 (k + 1) (omega (arith, array 0x4523 refl k h, counted)),
          ) r.ends;
    }

-- an input's run and flag stand behind the signals, the error list before them
remembered : (u : List ℕ) (kind n i : ℕ) (was is : Bool) (m : Memory) → kind + (n - 1) < 16 → held (remember (noted u i was is) i m) kind n ≡ held u kind n
unfolding place runs_at flags_at signals_at
remembered u kind n i was is m h =
    held_kept kind n (λ slot o.
    joined (noted_keeps u i was is (λ e. omega (arith, o.low, kept_last, counted), λ low high. omega (arith, o.low, fixed_last)))
    (remember_keeps _ i m (λ e. omega (arith, o.high)) (λ e. omega (arith, o.high))))

module _ (samples : List ℤ) (unit : List ℕ) (size : length unit ≡ unit_size) (k : ℕ) where
  pub input_made : k < 4 → let u = at_turn samples unit (inputs + k) in
      held (ticked samples unit) inputs (k + 1) ≡ (sensed (settings u (k + 1)) (memory u (k + 1)) (get_or samples k (pos 0))).signal
  unfolding input_turn
  input_made h =
      input_own samples unit k h ∙ remembered _ inputs (k + 1) (k + 1) _ _ _ (omega arith)
      ∙ laid_down _ inputs (k + 1) _ (input_number _ (k + 1) _) (published_length _ _ _ _ ∙ published_length _ _ _ _ ∙ sized samples unit size (inputs + k) (omega arith)) (omega arith)

  pub math_made : k < 4 → Rising unit (k + 1) → held (ticked samples unit) maths (k + 1) ≡ math_signal (at_turn samples unit (maths + k)) (k + 1)
  unfolding math_turn
  math_made h r =
      math_own samples unit k h
      ∙ laid_down _ maths (k + 1) _ (math_number _ (k + 1) (rising (tame samples unit (maths + k) (omega arith)) k h r))
      (published_length _ _ _ _ ∙ sized samples unit size (maths + k) (omega arith)) (omega arith)

  pub table_made : k < 6 → held (ticked samples unit) tables (k + 1) ≡ table_signal (at_turn samples unit (tables + k)) (k + 1)
  unfolding table_turn
  table_made h =
      table_own samples unit k h
      ∙ laid_down _ tables (k + 1) _ (table_number _ (k + 1)) (published_length _ _ _ _ ∙ sized samples unit size (tables + k) (omega arith)) (omega arith)

  pub logic_made : k < 2 → let u = at_turn samples unit (logics + k) in held (ticked samples unit) logics (k + 1) ≡ sourced u 3 (chosen u (k + 1))
  unfolding logic_turn
  logic_made h =
      logic_own samples unit k h
      ∙ laid_down _ logics (k + 1) _ (sourced_kept _ 3 _)
      (published_length _ _ _ _ ∙ published_length _ _ _ _ ∙ sized samples unit size (logics + k) (omega arith)) (omega arith)
