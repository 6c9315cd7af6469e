-- The error list over a tick.
-- Assumes nothing.
use Prim.Native.Nat.{ℕ, zero, suc, ◌+◌, ◌-◌, ◌<◌, ◌≤◌}
use mathlib.Core.Bool.{Bool}
use mathlib.Core.List.{List, [], ◌∷◌, ◌++◌, append_assoc}
use mathlib.Core.Path.{◌≡◌, sym, ap, ◌∙◌}
use native.Mathlib.Nat.{zero-add}
use native.Mathlib.Numerals.{add-one}
use native.Mathlib.Omega.{arith}
use lib.Dec.{lit≤, lit<}
use lib.IntN.{ℤ, pos}
use lib.ListN.{length, get_or, take}
use lib.Seq.{take_all}
use Rattle.numbers.specs.Choice.{first}
use Rattle.numbers.specs.Signed.{pattern16}
use Rattle.dictionary.specs.Names.{slot_of, words}
use Rattle.dictionary.specs.Unit.{signals_at, runs_at, flags_at, ramps_at, before_at, unit_size}
use Rattle.dictionary.proofs.Unticked.{signals_behind, signals_before}
use Rattle.dictionary.proofs.naming.NameLaws.{counted}
use Rattle.unit.specs.Each.{each}
use Rattle.unit.specs.Entry.{entry, publish}
use Rattle.unit.specs.Held.{inputs, place, lay}
use Rattle.input.specs.Errors.{error, errors, flagging, noted}
use Rattle.input.specs.Input.{sensed}
use Rattle.input.specs.declared.Sensed.{Sensed}
use Rattle.input.specs.Inputs.{settings, memory, input_turn}
use Rattle.input.proofs.ErrorLaws.{OfList, number, one, same_errors, errors_noted, errors_few, noted_few, cut_on}
use Rattle.controller.specs.Listed.{flaggings, EnterInFront}
use Rattle.controller.specs.Tick.{recalled, ticked}
use Rattle.controller.specs.Turns.{turn_of, at_turn}
use Rattle.controller.proofs.Kept.{Kept, Publishes, sampled, processed, stands, fixed_last, kept_last, register_first, Clear, joined, lay_keeps, publish_keeps, remember_keeps}
use Rattle.controller.proofs.Saw.{settings_saw, last_memory, memory_saw, published_twice}
use Rattle.controller.proofs.TickLaws.{sized}
use Rattle.controller.proofs.Turns.{Spared, below_mark, recalled_keeps, from_then, to_last, input_turn_lem}

-- the words of the list are no block's and not 1001h
aside : {slot : ℕ} → OfList slot → (x : ℕ) → slot_of 0x1001 0 ≤ x → x < slot_of 0x5010 1 → slot ≡ x → ⊥
aside number x low high e = omega (arith, kept_last, register_first, counted)
aside (one from to) x low high e = omega (arith, fixed_last)

in_words : {slot : ℕ} → OfList slot → slot < words
in_words number = omega (arith, kept_last, counted)
in_words (one from to) = omega (arith, fixed_last)

module _ {slot : ℕ} (o : OfList slot) where
  published : {row at : ℕ} → Publishes row at → slot ≡ at → ⊥
  published {row} {at} p = let s = stands p in aside o at (omega arith) s.high

  elsewhere : (kind n : ℕ) → Clear slot kind n
  unfolding place signals_at
  elsewhere kind n = (λ e. omega (arith, in_words o), λ e. omega (arith, in_words o))

  unremembered : (n : ℕ) → (slot ≡ runs_at + n → ⊥) × (slot ≡ flags_at + n → ⊥)
  unfolding flags_at runs_at signals_at
  unremembered n = (λ e. omega (arith, in_words o), λ e. omega (arith, in_words o))

  -- and only inputs set them
  later : (j : ℕ) → 3 < j → Spared slot j
  unfolding place signals_at runs_at flags_at ramps_at
  later j h =
      record {
        unpublished = λ at p. published p;
        memory = λ l. unremembered j;
        signal = λ l. (λ e. omega (arith, in_words o), λ e. omega (arith, in_words o));
        ramp = λ l q w g e. omega (arith, in_words o);
        unlisted = λ l. absurd (omega arith);
      }

  low : slot < before_at
  low = omega (arith, in_words o, signals_behind, signals_before)

  last : slot ≡ slot_of 0x1001 0 → ⊥
  last = aside o (slot_of 0x1001 0) (omega arith) (omega (arith, register_first, fixed_last, counted))

kept_list : (u v : List ℕ) → ((slot : ℕ) → OfList slot → Kept slot u v) → errors v ≡ errors u
kept_list u v kept = same_errors u v (kept (slot_of 0x1003 0) number).size (λ slot o. (kept slot o).word)

abbrev new : ℕ → Bool → Bool → List ℕ
new n was is = first (flagging was is) (error n ∷ []) []

-- the number kept, which is at most eight
abbrev Few : List ℕ → Type 0
Few u = entry u 0x1003 0 ≤ 8

still_few : {u v : List ℕ} → Kept (slot_of 0x1003 0) u v → Few u → Few v
unfolding entry
still_few kept few = rw kept.word few

-- one input's turn
module _ (u : List ℕ) (size : length u ≡ unit_size) (k : ℕ) (h : k < 4) (sample : ℤ) where
  done : Sensed
  done = sensed (settings u (k + 1)) (memory u (k + 1)) sample

  laid : List ℕ
  laid = lay (publish (publish u 0x7100 (k + 1) (pattern16 sample)) 0x7130 (k + 1) (pattern16 done.reads)) inputs (k + 1) done.signal

  long : words ≤ length laid
  unfolding laid unit_size flags_at runs_at signals_at
  long = omega (arith, published_twice u 0x7100 (k + 1) (pattern16 sample) 0x7130 (k + 1) (pattern16 done.reads) inputs (k + 1) done.signal)

  until_laid : (slot : ℕ) → OfList slot → Kept slot u laid
  unfolding laid
  until_laid slot o =
      joined (publish_keeps u 0x7100 (k + 1) _ (published o (sampled k h)))
      (joined (publish_keeps _ 0x7130 (k + 1) _ (published o (processed k h))) (lay_keeps _ inputs (k + 1) _ (elsewhere o inputs (k + 1))))

  since_noted : (slot : ℕ) → OfList slot → Kept slot (noted laid (k + 1) (memory u (k + 1)).flagged done.memory.flagged) (input_turn sample (k + 1) u)
  unfolding input_turn laid done
  since_noted slot o = remember_keeps _ (k + 1) _ (unremembered o (k + 1 - 1)).0 (unremembered o (k + 1 - 1)).1

  turn_lists : errors (input_turn sample (k + 1) u) ≡ take 8 (new (k + 1) (memory u (k + 1)).flagged done.memory.flagged ++ errors u)
  turn_lists =
      kept_list _ _ since_noted
      ∙ errors_noted laid long (k + 1) (memory u (k + 1)).flagged done.memory.flagged
      ∙ ap (λ (l : List ℕ). take 8 (new (k + 1) (memory u (k + 1)).flagged done.memory.flagged ++ l)) (kept_list u laid until_laid)

  turn_few : Few u → Few (input_turn sample (k + 1) u)
  turn_few few =
      still_few (since_noted (slot_of 0x1003 0) number)
      (noted_few laid long (k + 1) (memory u (k + 1)).flagged done.memory.flagged (still_few (until_laid (slot_of 0x1003 0) number) few))

module _ (samples : List ℤ) (unit : List ℕ) (size : length unit ≡ unit_size) where
  -- by the flags before and after the tick
  one_more : (k : ℕ) → k < 4 → (l : List ℕ) → errors (at_turn samples unit (inputs + k)) ≡ take 8 l
      → errors (turn_of samples (inputs + k + 1) (at_turn samples unit (inputs + k)))
      ≡ take 8 (new (k + 1) (memory unit (k + 1)).flagged (memory (ticked samples unit) (k + 1)).flagged ++ l)
  unfolding sensed done
  one_more k h l ih =
      ap errors (input_turn_lem samples k h (at_turn samples unit (inputs + k)))
      ∙ turn_lists (at_turn samples unit (inputs + k)) (sized samples unit size (inputs + k) (omega arith)) k h (get_or samples k (pos 0))
      ∙ rw (settings_saw samples unit size k h, last_memory samples unit size k h, ih, memory_saw samples unit size k h) (cut_on (new (k + 1) _ _) l 8 8 (lit≤ tt))

  -- keeping the signals
  found : (slot : ℕ) → OfList slot → Kept slot unit (recalled unit)
  found slot o = recalled_keeps (low o) unit

  -- the turns of inputs 1 to k
  first_turns : (k : ℕ) → k ≤ 4 → errors (at_turn samples unit k) ≡ take 8 (flaggings k unit (ticked samples unit) ++ errors unit)
  unfolding at_turn each flaggings
  first_turns zero h = kept_list unit (recalled unit) found ∙ sym (take_all 8 (errors unit) (errors_few unit))
  first_turns (suc k) h =
      let rest = flaggings k unit (ticked samples unit) in
      let ih : errors (at_turn samples unit (inputs + k)) ≡ take 8 (rest ++ errors unit) = rw (zero-add k) (first_turns k (omega arith)) in
      let next = rw (zero-add k, add-one k) at (one_more k (omega arith) (rest ++ errors unit) ih) in
      next ∙ ap (take 8) (sym (append_assoc (new (suc k) (memory unit (suc k)).flagged (memory (ticked samples unit) (suc k)).flagged) rest (errors unit)))

  first_few : Few unit → (k : ℕ) → k ≤ 4 → Few (at_turn samples unit k)
  unfolding at_turn each
  first_few few zero h = still_few (found (slot_of 0x1003 0) number) few
  first_few few (suc k) h =
      let u = at_turn samples unit k in
      let e : inputs + k + 1 ≡ suc k = omega arith in
      rw (← e, input_turn_lem samples k (omega arith) u) (turn_few u (sized samples unit size k (omega arith)) k (omega arith) _ (first_few few k (omega arith)))

  -- no later turn
  last_turns : (slot : ℕ) → OfList slot → Kept slot (at_turn samples unit 4) (ticked samples unit)
  unfolding at_turn each
  last_turns slot o = to_last samples unit (last o) (below_mark (low o)) (from_then samples unit 3 20 (lit< tt) (lit≤ tt) (λ j l g. later o j l))

  pub few_kept : Few unit → Few (ticked samples unit)
  few_kept few = still_few (last_turns (slot_of 0x1003 0) number) (first_few few 4 (lit≤ tt))

pub enter_in_front : EnterInFront
enter_in_front samples unit size = kept_list _ _ (last_turns samples unit size) ∙ first_turns samples unit size 4 (lit≤ tt)
