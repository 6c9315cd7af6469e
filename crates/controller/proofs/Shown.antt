-- What the output entries read after a tick.
-- Assumes nothing.
use Prim.Native.Nat.{ℕ, ◌+◌, ◌<◌}
use mathlib.Core.Bool.{Bool, true, false}
use mathlib.Core.List.{List}
use mathlib.Core.Path.{◌≡◌, refl, sym, ap, ◌∙◌}
use native.Mathlib.Omega.{arith}
use lib.IntN.{ℤ, pos}
use lib.ListN.{length, get_or, set}
use lib.Seq.{get_or-set_same}
use Rattle.numbers.specs.Choice.{first}
use Rattle.numbers.specs.Signed.{pattern16}
use Rattle.signals.specs.Signal.{as_real}
use Rattle.signals.specs.Signal as signals
use Rattle.signals.specs.declared.signal.Signal.{Signal}
use Rattle.signals.specs.Words.{number_of_signal}
use Rattle.dictionary.specs.Names.{slot_of}
use Rattle.dictionary.specs.Unit.{signals_at, runs_at, flags_at, unit_size}
use Rattle.input.specs.declared.Memory.{Memory}
use Rattle.input.specs.Input.{signal_of, reads_of, sensed}
use Rattle.unit.specs.Entry.{entry, publish}
use Rattle.unit.specs.Held.{inputs, maths, tables, logics, place, held}
use Rattle.unit.proofs.Slots.{has, array}
use Rattle.unit.specs.Sources.{sourced}
use Rattle.dictionary.proofs.naming.NameLaws.{counted}
use Rattle.input.specs.Errors.{noted}
use Rattle.input.specs.Inputs.{settings, memory, remember, input_turn}
use Rattle.math.specs.Maths.{math_turn}
use Rattle.table.specs.Tables.{of_table, table_turn}
use Rattle.logic.specs.Logics.{logic_turn}
use Rattle.logic.specs.Logics as logic
use Rattle.controller.specs.Tick.{ticked}
use Rattle.controller.specs.Shown.{Shown}
use Rattle.controller.specs.Turns.{turn_of, at_turn}
use Rattle.controller.proofs.Kept.{Kept, Publishes, sampled, processed, calculated, looked_up_lem, selected, passed_on, stands, fixed_last, kept_last, register_first, Clear, joined, noted_keeps, remember_keeps, lay_keeps, publish_keeps}
use Rattle.controller.proofs.Numbers.{Rising}
use Rattle.controller.proofs.Seen.{logics_see}
use Rattle.controller.proofs.Made.{published_length, input_made, math_made, table_made, logic_made}
use Rattle.controller.proofs.TickLaws.{sized}
use Rattle.controller.proofs.Turns.{shown, input_turn_lem, math_turn_lem, table_turn_lem, logic_turn_lem}

-- ---- what a turn leaves of a word that it published

module _ {row at : ℕ} (p : Publishes row at) where
  clear : (kind n : ℕ) → Clear at kind n
  unfolding place signals_at
  clear kind n = let mine = stands p in (λ e. omega (arith, fixed_last), λ e. omega (arith, fixed_last))

  -- the error list, an input's run and flag stand elsewhere
  remembers : (u : List ℕ) (n : ℕ) (was is : Bool) (m : Memory) → Kept at u (remember (noted u n was is) n m)
  unfolding flags_at runs_at signals_at
  remembers u n was is m = let mine = stands p in
      joined (noted_keeps u n was is (λ e. omega (arith, kept_last, register_first, counted), λ low high. omega (arith, fixed_last)))
      (remember_keeps _ n m (λ e. omega (arith, fixed_last)) (λ e. omega (arith, fixed_last)))

  there : (u : List ℕ) (word : ℕ) → length u ≡ unit_size → get_or (set u at word) at 0 ≡ word
  unfolding unit_size flags_at runs_at signals_at
  there u word size = let mine = stands p in get_or-set_same u at word 0 (omega (arith, fixed_last))

  by_turn : (samples : List ℤ) (unit : List ℕ) → row < 20 → {turn : List ℕ → List ℕ} → ((u : List ℕ) → turn_of samples (row + 1) u ≡ turn u)
      → get_or (ticked samples unit) at 0 ≡ get_or (turn (at_turn samples unit row)) at 0
  by_turn samples unit h is = shown samples unit p h ∙ ap (λ (v : List ℕ). get_or v at 0) (is (at_turn samples unit row))

-- ---- the entries

-- 7130h and the signal of an input are told by one flag
told : (flagged : Bool) (v : ℤ) → reads_of flagged v ≡ signals.whole (signal_of flagged v)
unfolding reads_of signal_of signals.whole first
told true v = refl
told false v = refl

module _ (samples : List ℤ) (unit : List ℕ) (size : length unit ≡ unit_size) (k : ℕ) where
  pub sample_shown : k < 4 → entry (ticked samples unit) 0x7100 (k + 1) ≡ pattern16 (get_or samples k (pos 0))
  unfolding entry input_turn publish has
  sample_shown h =
      let p = sampled k h in
      let other : slot_of 0x7100 (k + 1) ≡ slot_of 0x7130 (k + 1) → ⊥ = λ e. omega (arith, array 0x7100 refl k h, array 0x7130 refl k h) in
      let u = at_turn samples unit (inputs + k) in
      let sample = get_or samples k (pos 0) in
      by_turn p samples unit (omega arith) (input_turn_lem samples k h)
      ∙ (remembers p _ (k + 1) _ _ _).word
      ∙ (lay_keeps _ inputs (k + 1) _ (clear p inputs (k + 1))).word
      ∙ (publish_keeps (publish u 0x7100 (k + 1) (pattern16 sample)) 0x7130 (k + 1) (pattern16 (sensed (settings u (k + 1)) (memory u (k + 1)) sample).reads) other).word
      ∙ there p u (pattern16 sample) (sized samples unit size (inputs + k) (omega arith))

  pub input_shown : k < 4 → entry (ticked samples unit) 0x7130 (k + 1) ≡ pattern16 (signals.whole (held (ticked samples unit) inputs (k + 1)))
  unfolding entry input_turn publish sensed
  input_shown h =
      let p = processed k h in
      let u = at_turn samples unit (inputs + k) in
      by_turn p samples unit (omega arith) (input_turn_lem samples k h)
      ∙ (remembers p _ (k + 1) _ _ _).word
      ∙ (lay_keeps _ inputs (k + 1) _ (clear p inputs (k + 1))).word
      ∙ there p (publish u 0x7100 (k + 1) (pattern16 (get_or samples k (pos 0)))) _ (published_length u 0x7100 (k + 1) _ ∙ sized samples unit size (inputs + k) (omega arith))
      ∙ ap pattern16 (told _ _)
      ∙ ap (λ (s : Signal). pattern16 (signals.whole s)) (sym (input_made samples unit size k h))

  pub math_shown : k < 4 → Rising unit (k + 1) → entry (ticked samples unit) 0x4530 (k + 1) ≡ number_of_signal (as_real (held (ticked samples unit) maths (k + 1)))
  unfolding entry math_turn publish
  math_shown h r =
      let p = calculated k h in
      by_turn p samples unit (omega arith) (math_turn_lem samples k h)
      ∙ (lay_keeps _ maths (k + 1) _ (clear p maths (k + 1))).word
      ∙ there p (at_turn samples unit (maths + k)) _ (sized samples unit size (maths + k) (omega arith))
      ∙ ap (λ (s : Signal). number_of_signal (as_real s)) (sym (math_made samples unit size k h r))

  pub table_shown : k < 6 → entry (ticked samples unit) (of_table 0x3007 (k + 1)) 0 ≡ pattern16 (signals.whole (held (ticked samples unit) tables (k + 1)))
  unfolding entry table_turn publish
  table_shown h =
      let p = looked_up_lem k h in
      by_turn p samples unit (omega arith) (table_turn_lem samples k h)
      ∙ (lay_keeps _ tables (k + 1) _ (clear p tables (k + 1))).word
      ∙ there p (at_turn samples unit (tables + k)) _ (sized samples unit size (tables + k) (omega arith))
      ∙ ap (λ (s : Signal). pattern16 (signals.whole s)) (sym (table_made samples unit size k h))

  pub logic_shown : k < 2 → entry (ticked samples unit) 0x4020 (k + 1) ≡ pattern16 (signals.whole (held (ticked samples unit) logics (k + 1)))
  unfolding entry logic_turn publish
  logic_shown h =
      let p = passed_on k h in
      let u = at_turn samples unit (logics + k) in
      by_turn p samples unit (omega arith) (logic_turn_lem samples k h)
      ∙ (lay_keeps _ logics (k + 1) _ (clear p logics (k + 1))).word
      ∙ there p (publish u 0x4010 (k + 1) (logic.chosen u (k + 1))) _ (published_length u 0x4010 (k + 1) _ ∙ sized samples unit size (logics + k) (omega arith))
      ∙ ap (λ (s : Signal). pattern16 (signals.whole s)) (sym (logic_made samples unit size k h))

  pub number_shown : k < 2 → entry (ticked samples unit) 0x4010 (k + 1) ≡ logic.chosen (at_turn samples unit (logics + k)) (k + 1)
  unfolding entry logic_turn publish has
  number_shown h =
      let p = selected k h in
      let other : slot_of 0x4010 (k + 1) ≡ slot_of 0x4020 (k + 1) → ⊥ = λ e. omega (arith, array 0x4010 refl k h, array 0x4020 refl k h) in
      let u = at_turn samples unit (logics + k) in
      by_turn p samples unit (omega arith) (logic_turn_lem samples k h)
      ∙ (lay_keeps _ logics (k + 1) _ (clear p logics (k + 1))).word
      ∙ (publish_keeps (publish u 0x4010 (k + 1) (logic.chosen u (k + 1))) 0x4020 (k + 1) (pattern16 (signals.whole (sourced u 3 (logic.chosen u (k + 1))))) other).word
      ∙ there p u _ (sized samples unit size (logics + k) (omega arith))

  -- the tables have all been before
  pub logic_selects : k < 2 → held (ticked samples unit) logics (k + 1) ≡ sourced (ticked samples unit) 3 (entry (ticked samples unit) 0x4010 (k + 1))
  logic_selects h =
      logic_made samples unit size k h
      ∙ logics_see samples unit (logics + k) (omega arith) (omega arith) (logic.chosen (at_turn samples unit (logics + k)) (k + 1))
      ∙ ap (sourced (ticked samples unit) 3) (sym (number_shown h))

pub all_shown : (samples : List ℤ) (unit : List ℕ) → length unit ≡ unit_size → ((k : ℕ) → k < 4 → Rising unit (k + 1)) → Shown samples (ticked samples unit)
all_shown samples unit size rising =
    record {
      sampled = λ k. sample_shown samples unit size k;
      processed = λ k. input_shown samples unit size k;
      calculated = λ k h. math_shown samples unit size k h (rising k h);
      looked_up_lem = λ k. table_shown samples unit size k;
      passed_on = λ k. logic_shown samples unit size k;
      selected = λ k. logic_selects samples unit size k;
    }
