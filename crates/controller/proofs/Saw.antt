-- The signals of inputs, math blocks and tables after a tick, by what each saw.
-- Assumes nothing.
use Prim.Native.Nat.{ℕ, ◌+◌, ◌-◌, ◌<◌, ◌≤◌}
use mathlib.Core.Bool.{Bool, true, false, not}
use mathlib.Core.List.{List}
use mathlib.Core.Path.{◌≡◌, refl, sym, ◌∙◌}
use native.Mathlib.Omega.{arith}
use lib.Dec.{eqb, lit<, lit≤}
use lib.IntN.{ℤ, pos}
use lib.ListN.{length, get_or, set, take, drop, length-set, length-take, length-drop}
use lib.Seq.{get_or-set_same, get_or-set_other, ext_get_or, get_or-take, get_or-drop}
use Rattle.numbers.specs.Choice.{first}
use Rattle.signals.specs.declared.signal.Signal.{Signal}
use Rattle.dictionary.specs.Names.{slot_of, received_to}
use Rattle.dictionary.specs.Unit.{runs_at, flags_at, unit_size}
use Rattle.dictionary.proofs.naming.NameLaws.{counted}
use Rattle.math.specs.Math.{combined}
use Rattle.table.specs.Table.{looked_up}
use Rattle.unit.specs.Entry.{entry, whole, byte, time, switched, publish}
use Rattle.unit.specs.Held.{inputs, maths, tables, held, lay}
use Rattle.unit.proofs.HeldLaws.{laid_length}
use Rattle.unit.proofs.Slots.{stretch, has, have, Family, array, math_array, table_var, table_array}
use Rattle.input.specs.Input.{kept, process, signal_of, sensed}
use Rattle.input.specs.declared.Memory.{Memory}
use Rattle.input.specs.Inputs.{settings, memory, remember, input_turn}
use Rattle.math.specs.Maths.{of_math, operand, operator, ends, math_signal}
use Rattle.table.specs.Tables.{of_table, eleven, table_signal}
use Rattle.controller.specs.Tick.{ticked}
use Rattle.controller.specs.Saw.{Saw}
use Rattle.controller.specs.TickLaws.{before}
use Rattle.controller.specs.Turns.{at_turn, seen, operand_seen}
use Rattle.controller.proofs.Kept.{noted_length}
use Rattle.controller.proofs.Numbers.{Rising}
use Rattle.controller.proofs.Seen.{alike_after, sourced_by}
use Rattle.controller.proofs.Turns.{run, flag, remembered, last_remembered, input_turn_lem}
use Rattle.controller.proofs.Made.{published_length, input_made, math_made, table_made}
use Rattle.controller.proofs.TickLaws.{sized, length_kept, tame, first_word}

-- ---- an input's memory is read as it was kept

flag_back : (b : Bool) → not (eqb (first b 1 0) 0) ≡ b
unfolding first
flag_back true = refl
flag_back false = refl

memory_back : (u : List ℕ) (k : ℕ) (m : Memory) → k < 4 → length u ≡ unit_size → memory (remember u (k + 1) m) (k + 1) ≡ m
unfolding memory remember unit_size flags_at
memory_back u k m h size =
    let run = runs_at + (k + 1 - 1) in
    let flag = runs_at + 4 + (k + 1 - 1) in
    let once = set u run m.run in
    rw (
      get_or-set_other once flag run (first m.flagged 1 0) 0 (λ e. omega arith),
      get_or-set_same u run m.run 0 (omega arith),
      get_or-set_same once flag (first m.flagged 1 0) 0 (omega (arith, length-set u run m.run)),
      flag_back m.flagged,
    )

pub published_twice : (u : List ℕ) (a b c d e f kind n : ℕ) (s : Signal) → length (lay (publish (publish u a b c) d e f) kind n s) ≡ length u
unfolding lay
published_twice u a b c d e f kind n s = laid_length _ (kind + (n - 1)) s ∙ published_length _ d e f ∙ published_length u a b c

module _ (samples : List ℤ) (unit : List ℕ) where
  -- a word of the configuration at a turn and after the tick
  pub config : (r : ℕ) → r ≤ 20 → (index sub : ℕ) → slot_of index sub < received_to → entry (at_turn samples unit r) index sub ≡ entry (ticked samples unit) index sub
  unfolding entry
  config r h index sub l = alike_after samples unit r h (slot_of index sub) (before l)

  module _ (size : length unit ≡ unit_size) (k : ℕ) (h : k < 4) where
    input_word : (index : ℕ) {slot : ℕ} → stretch index 1 4 slot ≡ has index → slot + 4 ≤ 611 → entry (at_turn samples unit (inputs + k)) index (k + 1) ≡ entry (ticked samples unit) index (k + 1)
    input_word index e l = config (inputs + k) (omega arith) index (k + 1) (omega (arith, array index e k h, counted))

    pub settings_saw : settings (at_turn samples unit (inputs + k)) (k + 1) ≡ settings (ticked samples unit) (k + 1)
    unfolding settings whole switched time byte has
    settings_saw =
        rw (
          input_word 0x7120 refl (lit≤ tt),
          input_word 0x7121 refl (lit≤ tt),
          input_word 0x7122 refl (lit≤ tt),
          input_word 0x7123 refl (lit≤ tt),
          input_word 0x7148 refl (lit≤ tt),
          input_word 0x7149 refl (lit≤ tt),
          input_word 0x2111 refl (lit≤ tt),
          input_word 0x2110 refl (lit≤ tt),
          input_word 0x2112 refl (lit≤ tt),
        )

    -- the memory at the input's turn is the last tick's
    pub last_memory : memory (at_turn samples unit (inputs + k)) (k + 1) ≡ memory unit (k + 1)
    unfolding memory
    last_memory =
        let e : k + 1 - 1 ≡ k = omega arith in
        rw (e, last_remembered samples unit (run k h) (omega arith), last_remembered samples unit (flag k h) (omega arith))

    own_memory : memory (ticked samples unit) (k + 1) ≡ memory (input_turn (get_or samples k (pos 0)) (k + 1) (at_turn samples unit (inputs + k))) (k + 1)
    unfolding memory
    own_memory =
        let e : k + 1 - 1 ≡ k = omega arith in
        rw (e, remembered samples unit (run k h) (omega arith), remembered samples unit (flag k h) (omega arith), input_turn_lem samples k h)

    pub memory_saw : memory (ticked samples unit) (k + 1) ≡ kept (settings (ticked samples unit) (k + 1)) (memory unit (k + 1)) (get_or samples k (pos 0))
    unfolding input_turn sensed
    memory_saw =
        own_memory
        ∙ memory_back _ k _ h (noted_length _ _ _ _ ∙ published_twice _ _ _ _ _ _ _ _ _ _ ∙ sized samples unit size (inputs + k) (omega arith))
        ∙ rw (settings_saw, last_memory)

    input_saw : held (ticked samples unit) inputs (k + 1) ≡ signal_of (memory (ticked samples unit) (k + 1)).flagged (process (settings (ticked samples unit) (k + 1)) (get_or samples k (pos 0)))
    unfolding sensed kept
    input_saw = input_made samples unit size k h ∙ rw (settings_saw, last_memory, memory_saw)

  module _ (k : ℕ) (h : k < 4) where
    math_word : (index : ℕ) {slot last : ℕ} → Family 4 (λ k. of_math index (k + 1)) 1 last 27 slot → slot + 81 + last ≤ 611 → (i : ℕ) → i < last
        → entry (at_turn samples unit (maths + k)) (of_math index (k + 1)) (i + 1) ≡ entry (ticked samples unit) (of_math index (k + 1)) (i + 1)
    math_word index e l i g = config (maths + k) (omega arith) (of_math index (k + 1)) (i + 1) (omega (arith, math_array index e k h i g, counted))

    operand_saw : (i : ℕ) → i < 4 → operand (at_turn samples unit (maths + k)) (k + 1) (i + 1) ≡ operand_seen unit (ticked samples unit) k (i + 1)
    unfolding operand operand_seen whole byte have
    operand_saw i g =
        let after = ticked samples unit in
        let source = byte after (of_math 0x4000 (k + 1)) (i + 1) in
        let number = byte after (of_math 0x4001 (k + 1)) (i + 1) in
        rw (
          math_word 0x4000 refl (lit≤ tt) i g,
          math_word 0x4001 refl (lit≤ tt) i g,
          math_word 0x4020 refl (lit≤ tt) i g,
          math_word 0x4022 refl (lit≤ tt) i g,
          math_word 0x4040 refl (lit≤ tt) i g,
          sourced_by samples unit (maths + k) source number (omega arith),
        )

    operator_saw : (i : ℕ) → i < 3 → operator (at_turn samples unit (maths + k)) (k + 1) (i + 1) ≡ operator (ticked samples unit) (k + 1) (i + 1)
    unfolding operator byte have
    operator_saw i g = rw (math_word 0x4050 refl (lit≤ tt) i g)

    switch_saw : switched (at_turn samples unit (maths + k)) 0x4500 (k + 1) ≡ switched (ticked samples unit) 0x4500 (k + 1)
    unfolding switched byte has
    switch_saw = rw (config (maths + k) (omega arith) 0x4500 (k + 1) (omega (arith, array 0x4500 refl k h, counted)))

    ends_saw : ends (at_turn samples unit (maths + k)) (k + 1) ≡ ends (ticked samples unit) (k + 1)
    unfolding ends whole has
    ends_saw =
        rw (
          config (maths + k) (omega arith) 0x4521 (k + 1) (omega (arith, array 0x4521 refl k h, counted)),
          config (maths + k) (omega arith) 0x4523 (k + 1) (omega (arith, array 0x4523 refl k h, counted)),
        )

    pub math_saw : math_signal (at_turn samples unit (maths + k)) (k + 1) ≡
        combined (switched (ticked samples unit) 0x4500 (k + 1))
        (operand_seen unit (ticked samples unit) k 1)
        (operator (ticked samples unit) (k + 1) 1)
        (operand_seen unit (ticked samples unit) k 2)
        (operator (ticked samples unit) (k + 1) 2)
        (operand_seen unit (ticked samples unit) k 3)
        (operator (ticked samples unit) (k + 1) 3)
        (operand_seen unit (ticked samples unit) k 4)
        (ends (ticked samples unit) (k + 1))
    unfolding math_signal
    math_saw =
        rw (
          switch_saw,
          ends_saw,
          operator_saw 0 (lit< tt),
          operator_saw 1 (lit< tt),
          operator_saw 2 (lit< tt),
          operand_saw 0 (lit< tt),
          operand_saw 1 (lit< tt),
          operand_saw 2 (lit< tt),
          operand_saw 3 (lit< tt),
        )

  module _ (k : ℕ) (h : k < 6) where
    -- the eleven words of an array
    eleven_saw : (index : ℕ) {slot : ℕ} → Family 6 (λ k. of_table index (k + 1)) 1 11 37 slot → slot + 196 ≤ 611 →
        eleven (at_turn samples unit (tables + k)) (of_table index (k + 1)) ≡ eleven (ticked samples unit) (of_table index (k + 1))
    unfolding eleven
    eleven_saw index e l =
        let u = at_turn samples unit (tables + k) in
        let v = ticked samples unit in
        let r : tables + k ≤ 20 = omega arith in
        let from = slot_of (of_table index (k + 1)) 1 in
        let at = table_array index e k h in
        let long : length u ≡ length v = (tame samples unit (tables + k) r 0 first_word).size ∙ sym (length_kept samples unit) in
        ext_get_or 0 (take 11 (drop from u)) (take 11 (drop from v)) (simp (length-take, length-drop, long))
        (λ i g. let few : i < 11 = omega (arith, length-take 11 (drop from u)) in
        get_or-take 11 (drop from u) i 0 few ∙ get_or-drop from u i 0
        ∙ alike_after samples unit (tables + k) r (from + i) (before {slot = from + i} (omega (arith, counted)))
        ∙ sym (get_or-take 11 (drop from v) i 0 few ∙ get_or-drop from v i 0))

    pub table_saw : table_signal (at_turn samples unit (tables + k)) (k + 1) ≡
        looked_up (eleven (ticked samples unit) (of_table 0x3004 (k + 1))) (eleven (ticked samples unit) (of_table 0x3005 (k + 1))) (eleven (ticked samples unit) (of_table 0x3006 (k + 1)))
        (seen unit (ticked samples unit) (tables + k) (byte (ticked samples unit) (of_table 0x3000 (k + 1)) 0) (byte (ticked samples unit) (of_table 0x3001 (k + 1)) 0))
    unfolding table_signal byte have
    table_saw =
        let r : tables + k ≤ 20 = omega arith in
        let after = ticked samples unit in
        rw (
          eleven_saw 0x3004 refl (lit≤ tt),
          eleven_saw 0x3005 refl (lit≤ tt),
          eleven_saw 0x3006 refl (lit≤ tt),
          config (tables + k) r (of_table 0x3000 (k + 1)) 0 (omega (arith, table_var 0x3000 refl k h, counted)),
          config (tables + k) r (of_table 0x3001 (k + 1)) 0 (omega (arith, table_var 0x3001 refl k h, counted)),
          sourced_by samples unit (tables + k) (byte after (of_table 0x3000 (k + 1)) 0) (byte after (of_table 0x3001 (k + 1)) 0) r,
        )

pub saw : (samples : List ℤ) (unit : List ℕ) → length unit ≡ unit_size → ((k : ℕ) → k < 4 → Rising unit (k + 1)) → Saw samples unit (ticked samples unit)
saw samples unit size rising =
    record {
      remembered = λ k h. memory_saw samples unit size k h;
      input = λ k h. input_saw samples unit size k h;
      math = λ k h. math_made samples unit size k h (rising k h) ∙ math_saw samples unit k h;
      table = λ k h. table_made samples unit size k h ∙ table_saw samples unit k h;
    }
