-- What a turn leaves alone: the word at a slot that it does not set.
-- Assumes nothing.
use Prim.Native.Nat.{ℕ, zero, suc, ◌+◌, ◌-◌, ◌<◌, ◌≤◌}
use mathlib.Core.Bool.{Bool}
use mathlib.Core.List.{List, ◌∷◌}
use mathlib.Core.Logic.{⊎_elim}
use mathlib.Core.Path.{◌≡◌, refl, sym, ap, ◌∙◌, subst}
use native.Mathlib.Nat.{eq-or-lt_of_le, le_of_suc-le-suc}
use native.Mathlib.Numerals.{add-one}
use native.Mathlib.Omega.{arith}
use borrow.Author.Tests.{lt-ltb, le-ltb}
use lib.Dec.{eqb, ltb, lit<}
use lib.IntN.{ℤ}
use lib.ListN.{length, get_or, set, take, length-set, length-take}
use lib.Seq.{get_or-set_other, length-sets}
use Rattle.numbers.specs.Choice.{first}
use Rattle.numbers.proofs.Choices.{chosen}
use Rattle.signals.specs.declared.signal.Signal.{Signal}
use Rattle.dictionary.specs.Names.{slot_of, received_to, writable, words}
use Rattle.dictionary.specs.Unit.{runs_at, flags_at, ramps_at, ramp_count_at, ramp_start_at, ramp_rising_at, ramp_fv1_at, ramp_fv2_at, ramp_used_at}
use Rattle.dictionary.proofs.naming.NameLaws.{counted}
use Rattle.unit.specs.Each.{each}
use Rattle.unit.specs.Entry.{publish}
use Rattle.unit.specs.Held.{inputs, maths, tables, logics, blocks, place, lay, held, at_row}
use Rattle.unit.proofs.Each.{more, each_keeps}
use Rattle.unit.proofs.HeldLaws.{laid_length, laid_other}
use Rattle.unit.proofs.Slots.{has, have, array, var, table_value, fixed_constant, error_slots}
use Rattle.math.specs.Maths.{math_turn}
use Rattle.table.specs.Tables.{of_table, table_turn}
use Rattle.logic.specs.Logics.{logic_turn}
use Rattle.input.specs.Errors.{error, eight, entered, flagging, noted}
use Rattle.input.specs.Inputs.{remember, input_turn}
use Rattle.input.specs.declared.Memory.{Memory}
use Rattle.input.proofs.ErrorLaws.{sets_keeps}
use Rattle.output.specs.Outputs as output
use Rattle.output.specs.Outputs.{output_turn}
use Rattle.output.specs.declared.Motion.{Motion}
use Rattle.output.proofs.MotionLaws.{ramp_word}
use Rattle.controller.specs.Register.{registered}

-- the word at a slot is as it was, and so is the length
pub record Kept (slot : ℕ) (u v : List ℕ) : Type 0 where
  pub word : get_or v slot 0 ≡ get_or u slot 0
  pub size : length v ≡ length u

-- ---- where a tick sets words

-- the slots where the block at a row publishes; rows 16 to 19 are the outputs
pub data Publishes : ℕ → ℕ → Type 0 where
  sampled : (k : ℕ) → k < 4 → Publishes (inputs + k) (slot_of 0x7100 (k + 1))
  processed : (k : ℕ) → k < 4 → Publishes (inputs + k) (slot_of 0x7130 (k + 1))
  calculated : (k : ℕ) → k < 4 → Publishes (maths + k) (slot_of 0x4530 (k + 1))
  looked_up_lem : (k : ℕ) → k < 6 → Publishes (tables + k) (slot_of (of_table 0x3007 (k + 1)) 0)
  selected : (k : ℕ) → k < 2 → Publishes (logics + k) (slot_of 0x4010 (k + 1))
  passed_on : (k : ℕ) → k < 2 → Publishes (logics + k) (slot_of 0x4020 (k + 1))
  commanded : (k : ℕ) → k < 4 → Publishes (blocks + k) (slot_of 0x7330 (k + 1))

-- 5010h:1-2 and 1003h:1-8 are the last of the dictionary's words
pub fixed_last : (slot_of 0x5010 1 + 2 ≡ slot_of 0x1003 1) × (slot_of 0x1003 1 + 8 ≡ words)
unfolding has
fixed_last = (omega (arith, fixed_constant refl 1 (lit< tt) (lit< tt), error_slots), omega (arith, error_slots, counted.2))

-- 1003h:0 is the last that can be written
pub kept_last : slot_of 0x1003 0 ≡ received_to
kept_last = error_slots.0 ∙ sym counted.4

pub register_first : slot_of 0x1001 0 ≡ writable
unfolding has
register_first = var 0x1001 refl ∙ sym counted.1

-- the row that publishes at a slot, by the slot's distance from 1001h: 7100h, 7130h, 30z7h and 4010h, 4020h, 4530h, 7330h
unfoldable pub owner : ℕ → ℕ
owner n = first (ltb n 5) (n - 1) (first (ltb n 9) (n - 5) (first (ltb n 17) (n - 1) (first (ltb n 19) (n - 3) (first (ltb n 23) (n - 15) (n - 7)))))

-- blocks publish behind 1001h and before 5010h:1, each where no other does
pub record Stands (row at : ℕ) : Type 0 where
  pub low : slot_of 0x1001 0 < at
  pub high : at < slot_of 0x5010 1
  pub owned : owner (at - slot_of 0x1001 0) ≡ row

-- a slot n behind 1001h
behind : (n : ℕ) {row at : ℕ} → at ≡ slot_of 0x1001 0 + n → 0 < n → n < 27 → owner n ≡ row → Stands row at
behind n {row} {at} e low high own =
    let far : at - slot_of 0x1001 0 ≡ n = omega arith in
    record { low = omega arith; high = omega (arith, fixed_last, register_first, counted); owned = ap owner far ∙ own }

pub stands : {row at : ℕ} → Publishes row at → Stands row at
unfolding owner first has have
stands (sampled k h) = behind (1 + k) (omega (arith, array 0x7100 refl k h, register_first, counted)) (omega arith) (omega arith) (rw (lt-ltb (1 + k) 5 (omega arith)) (omega arith))
stands (processed k h) = behind (5 + k) (omega (arith, array 0x7130 refl k h, register_first, counted)) (omega arith) (omega arith) (rw (le-ltb (5 + k) 5 (omega arith), lt-ltb (5 + k) 9 (omega arith)) (omega arith))
stands (calculated k h) = behind (19 + k) (omega (arith, array 0x4530 refl k h, register_first, counted)) (omega arith) (omega arith) (rw (le-ltb (19 + k) 5 (omega arith), le-ltb (19 + k) 9 (omega arith), le-ltb (19 + k) 17 (omega arith), le-ltb (19 + k) 19 (omega arith), lt-ltb (19 + k) 23 (omega arith)) (omega arith))
stands (looked_up_lem k h) = behind (9 + k) (omega (arith, table_value 0x3007 refl k h, register_first, counted)) (omega arith) (omega arith) (rw (le-ltb (9 + k) 5 (omega arith), le-ltb (9 + k) 9 (omega arith), lt-ltb (9 + k) 17 (omega arith)) (omega arith))
stands (selected k h) = behind (15 + k) (omega (arith, array 0x4010 refl k h, register_first, counted)) (omega arith) (omega arith) (rw (le-ltb (15 + k) 5 (omega arith), le-ltb (15 + k) 9 (omega arith), lt-ltb (15 + k) 17 (omega arith)) (omega arith))
stands (passed_on k h) = behind (17 + k) (omega (arith, array 0x4020 refl k h, register_first, counted)) (omega arith) (omega arith) (rw (le-ltb (17 + k) 5 (omega arith), le-ltb (17 + k) 9 (omega arith), le-ltb (17 + k) 17 (omega arith), lt-ltb (17 + k) 19 (omega arith)) (omega arith))
stands (commanded k h) = behind (23 + k) (omega (arith, array 0x7330 refl k h, register_first, counted)) (omega arith) (omega arith) (rw (le-ltb (23 + k) 5 (omega arith), le-ltb (23 + k) 9 (omega arith), le-ltb (23 + k) 17 (omega arith), le-ltb (23 + k) 19 (omega arith), le-ltb (23 + k) 23 (omega arith)) (omega arith))

-- a slot that is neither of the two where a block's signal stands
abbrev pub Clear : ℕ → ℕ → ℕ → Type 0
Clear slot kind n = (slot ≡ place (kind + (n - 1)) → ⊥) × (slot ≡ place (kind + (n - 1)) + 1 → ⊥)

-- a slot that is no part of the error list
abbrev pub Unlisted : ℕ → Type 0
Unlisted slot = (slot ≡ slot_of 0x1003 0 → ⊥) × (slot_of 0x1003 1 ≤ slot → slot < slot_of 0x1003 1 + 8 → ⊥)

-- ---- one set after the other

module _ {slot : ℕ} where
  pub same : {u : List ℕ} → Kept slot u u
  same = record { word = refl; size = refl }

  pub joined : {u v w : List ℕ} → Kept slot u v → Kept slot v w → Kept slot u w
  joined a b = record { word = b.word ∙ a.word; size = b.size ∙ a.size }

  pub all_keep : (n : ℕ) (turn : ℕ → List ℕ → List ℕ) → ((k : ℕ) → k < n → (u : List ℕ) → Kept slot u (turn (k + 1) u)) → {u v : List ℕ} → Kept slot u v → Kept slot u (each n turn v)
  all_keep n turn keeps {u} {v} a = joined a (each_keeps (Kept slot) (λ u. same) (λ u v w. joined) n turn keeps v)

  pub set_keeps : (u : List ℕ) (at word : ℕ) → (slot ≡ at → ⊥) → Kept slot u (set u at word)
  set_keeps u at word other = record { word = get_or-set_other u at slot word 0 other; size = length-set u at word }

  pub lay_keeps : (u : List ℕ) (kind n : ℕ) (s : Signal) → Clear slot kind n → Kept slot u (lay u kind n s)
  unfolding lay
  lay_keeps u kind n s clear =
      record { word = laid_other u (kind + (n - 1)) s slot clear.0 clear.1; size = laid_length u (kind + (n - 1)) s }

  pub publish_keeps : (u : List ℕ) (index sub word : ℕ) → (slot ≡ slot_of index sub → ⊥) → Kept slot u (publish u index sub word)
  unfolding publish
  publish_keeps u index sub word = set_keeps u (slot_of index sub) word

  pub noted_keeps : (u : List ℕ) (n : ℕ) (was is : Bool) → Unlisted slot → Kept slot u (noted u n was is)
  unfolding noted entered
  noted_keeps u n was is clear =
      chosen (Kept slot u) (flagging was is) _ _
      (λ e. let ws = error n ∷ take 7 (eight u) in
      joined
      (record { word = sets_keeps ws u (slot_of 0x1003 1) slot (λ low high. clear.1 low (omega (arith, length-take 7 (eight u)))); size = length-sets u (slot_of 0x1003 1) ws })
      (publish_keeps _ 0x1003 0 _ clear.0))
      (λ e. same)

  pub remember_keeps : (u : List ℕ) (n : ℕ) (m : Memory) → (slot ≡ runs_at + (n - 1) → ⊥) → (slot ≡ flags_at + (n - 1) → ⊥) → Kept slot u (remember u n m)
  unfolding remember
  remember_keeps u n m run flag = joined (set_keeps u (runs_at + (n - 1)) _ run) (set_keeps _ (flags_at + (n - 1)) _ flag)

  pub register_keeps : (slot ≡ slot_of 0x1001 0 → ⊥) → (u : List ℕ) → Kept slot u (registered u)
  unfolding registered
  register_keeps other u = publish_keeps u 0x1001 0 _ other

  module _ (k : ℕ) where
    pub math_keeps : (slot ≡ slot_of 0x4530 (k + 1) → ⊥) → Clear slot maths (k + 1) → (u : List ℕ) → Kept slot u (math_turn (k + 1) u)
    unfolding math_turn
    math_keeps other clear u = joined (publish_keeps u 0x4530 (k + 1) _ other) (lay_keeps _ maths (k + 1) _ clear)

    pub table_keeps : (slot ≡ slot_of (of_table 0x3007 (k + 1)) 0 → ⊥) → Clear slot tables (k + 1) → (u : List ℕ) → Kept slot u (table_turn (k + 1) u)
    unfolding table_turn
    table_keeps other clear u = joined (publish_keeps u (of_table 0x3007 (k + 1)) 0 _ other) (lay_keeps _ tables (k + 1) _ clear)

    pub logic_keeps : (slot ≡ slot_of 0x4010 (k + 1) → ⊥) → (slot ≡ slot_of 0x4020 (k + 1) → ⊥) → Clear slot logics (k + 1) → (u : List ℕ) → Kept slot u (logic_turn (k + 1) u)
    unfolding logic_turn
    logic_keeps other another clear u = joined (publish_keeps u 0x4010 (k + 1) _ other) (joined (publish_keeps _ 0x4020 (k + 1) _ another) (lay_keeps _ logics (k + 1) _ clear))

    module _ (others : (w : ℕ) → w < 6 → slot ≡ ramp_word k w → ⊥) where
      count_kept : (u : List ℕ) (m : Motion) → Kept slot u (output.noted u (k + 1) m)
      unfolding output.noted ramps_at ramp_start_at ramp_rising_at ramp_fv1_at ramp_fv2_at ramp_used_at
      count_kept u m =
          joined (set_keeps u (ramp_start_at + (k + 1 - 1)) _ (λ e. others 1 (lit< tt) (omega arith)))
          (joined (set_keeps _ (ramp_rising_at + (k + 1 - 1)) _ (λ e. others 2 (lit< tt) (omega arith)))
          (joined (set_keeps _ (ramp_fv1_at + (k + 1 - 1)) _ (λ e. others 3 (lit< tt) (omega arith)))
          (joined (set_keeps _ (ramp_fv2_at + (k + 1 - 1)) _ (λ e. others 4 (lit< tt) (omega arith)))
          (set_keeps _ (ramp_used_at + (k + 1 - 1)) _ (λ e. others 5 (lit< tt) (omega arith))))))

      pub output_keeps : (slot ≡ slot_of 0x7330 (k + 1) → ⊥) → (u : List ℕ) → Kept slot u (output_turn (k + 1) u)
      unfolding output_turn output.remember ramps_at ramp_count_at
      output_keeps other u = let m = output.driven_of u (k + 1) in
          joined (chosen (Kept slot u) (eqb m.count 1) (output.noted u (k + 1) m) u (λ e. count_kept u m) (λ e. same))
          (joined (publish_keeps _ 0x7330 (k + 1) _ other) (set_keeps _ (ramp_count_at + (k + 1 - 1)) _ (λ e. others 0 (lit< tt) (omega arith))))

    pub input_keeps : (slot ≡ slot_of 0x7100 (k + 1) → ⊥) → (slot ≡ slot_of 0x7130 (k + 1) → ⊥) → Clear slot inputs (k + 1)
        → (slot ≡ runs_at + k → ⊥) × (slot ≡ flags_at + k → ⊥) → Unlisted slot → (sample : ℤ) (u : List ℕ) → Kept slot u (input_turn sample (k + 1) u)
    unfolding input_turn
    input_keeps other another clear memory unlisted sample u =
        joined (publish_keeps u 0x7100 (k + 1) _ other)
        (joined (publish_keeps _ 0x7130 (k + 1) _ another)
        (joined (lay_keeps _ inputs (k + 1) _ clear)
        (joined (noted_keeps _ (k + 1) _ _ unlisted)
        (remember_keeps _ (k + 1) _ (λ e. memory.0 (omega arith)) (λ e. memory.1 (omega arith))))))

pub noted_length : (u : List ℕ) (n : ℕ) (was is : Bool) → length (noted u n was is) ≡ length u
noted_length u n was is = (noted_keeps {slot = words} u n was is ((λ e. omega (arith, kept_last, counted), λ low high. omega (arith, fixed_last)))).size

-- ---- a slot that no later block of a phase touches: after the phase it is as a block's own turn left it

module _ {slot : ℕ} (turn : ℕ → List ℕ → List ℕ) (count k : ℕ) (others : (j : ℕ) → k < j → j < count → (u : List ℕ) → Kept slot u (turn (j + 1) u)) (u : List ℕ) where
  pub own_turn : (m : ℕ) → k < m → m ≤ count → Kept slot (turn (k + 1) (each k turn u)) (each m turn u)
  unfolding each
  own_turn zero h l = absurd (omega arith)
  own_turn (suc m) h l =
      ⊎_elim
      (λ e. subst (λ (v : List ℕ). Kept slot (turn (k + 1) (each k turn u)) v) (sym (more turn u k) ∙ ap (λ (j : ℕ). each j turn u) (add-one k ∙ ap suc e)) same)
      (λ g. joined (own_turn m g (omega arith)) (rw (add-one m) at (others m g (omega arith) (each m turn u))))
      (eq-or-lt_of_le (le_of_suc-le-suc h))

-- ---- the two words of a signal

pub record OfRow (row slot : ℕ) : Type 0 where
  pub low : place row ≤ slot
  pub high : slot ≤ place row + 1

-- a signal is as it was where they are
pub row_kept : {u v : List ℕ} (row : ℕ) → ((slot : ℕ) → OfRow row slot → Kept slot u v) → at_row v row ≡ at_row u row
unfolding at_row
row_kept row kept = let at = place row in
    rw ((kept at (record { low = omega arith; high = omega arith })).word, (kept (at + 1) (record { low = omega arith; high = omega arith })).word)

pub held_kept : {u v : List ℕ} (kind n : ℕ) → ((slot : ℕ) → OfRow (kind + (n - 1)) slot → Kept slot u v) → held v kind n ≡ held u kind n
unfolding held
held_kept kind n = row_kept (kind + (n - 1))
