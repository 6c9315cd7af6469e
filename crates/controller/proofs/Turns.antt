-- The turns of a tick one by one: what each leaves alone, and what a block sees at its own.
-- Assumes nothing.
use Prim.Native.Nat.{ℕ, ◌+◌, ◌-◌, ◌<◌, ◌≤◌}
use mathlib.Core.List.{List}
use mathlib.Core.Path.{◌≡◌, refl, sym, ap, ◌∙◌, subst}
use native.Mathlib.Omega.{arith}
use borrow.Author.Tests.{ltb-true, ltb-false, lt-ltb, le-ltb}
use lib.Dec.{ltb, lit≤}
use lib.IntN.{ℤ, pos}
use lib.ListN.{get_or}
use Rattle.numbers.specs.Choice.{first}
use Rattle.numbers.proofs.Choices.{chosen}
use Rattle.dictionary.specs.Names.{slot_of}
use Rattle.dictionary.proofs.naming.NameLaws.{counted}
use Rattle.dictionary.specs.Unit.{signals_at, runs_at, flags_at, ramps_at, before_at, ticked_at}
use Rattle.dictionary.proofs.Unticked.{signals_behind, signals_before, runs_before, flags_before, ramps_before, mark_behind}
use Rattle.unit.specs.Each.{each}
use Rattle.unit.specs.Held.{inputs, maths, tables, logics, blocks, place, at_row, held}
use Rattle.math.specs.Maths.{math_turn}
use Rattle.table.specs.Tables.{table_turn}
use Rattle.logic.specs.Logics.{logic_turn}
use Rattle.input.specs.Inputs.{input_turn}
use Rattle.output.specs.Outputs.{output_turn}
use Rattle.output.proofs.MotionLaws.{ramp_word}
use Rattle.controller.specs.Register.{registered}
use Rattle.controller.specs.Tick.{recall, recalled, marked, ticked}
use Rattle.controller.specs.Turns.{turn_of, at_turn, SeenBy}
use Rattle.controller.proofs.Kept.{Kept, Publishes, sampled, processed, calculated, looked_up_lem, selected, passed_on, commanded, owner, stands, fixed_last, kept_last, register_first, Clear, Unlisted, same, joined, all_keep, set_keeps, register_keeps, math_keeps, table_keeps, logic_keeps, output_keeps, input_keeps, own_turn, OfRow, row_kept}

-- a slot that turn j + 1 does not set
pub record Spared (slot j : ℕ) : Type 0 where
  pub unpublished : (at : ℕ) → Publishes j at → slot ≡ at → ⊥
  pub memory : j < 4 → (slot ≡ runs_at + j → ⊥) × (slot ≡ flags_at + j → ⊥)
  pub signal : j < 16 → (slot ≡ place j → ⊥) × (slot ≡ place j + 1 → ⊥)
  pub ramp : 16 ≤ j → j < 20 → (w : ℕ) → w < 6 → slot ≡ ramp_word (j - 16) w → ⊥
  pub unlisted : j < 4 → Unlisted slot

pub below_mark : {slot : ℕ} → slot < before_at → slot < ticked_at
below_mark h = omega (arith, mark_behind)

-- the signals are kept behind all that the turns use
pub recalled_keeps : {slot : ℕ} → slot < before_at → (u : List ℕ) → Kept slot u (recalled u)
unfolding recalled recall
recalled_keeps {slot} low u = all_keep 32 recall (λ k l v. set_keeps v (before_at + (k + 1 - 1)) _ (λ e. omega arith)) same

module _ (samples : List ℤ) where
  pub turn_keeps : {slot : ℕ} (j : ℕ) → j < 20 → Spared slot j → (u : List ℕ) → Kept slot u (turn_of samples (j + 1) u)
  unfolding turn_of place
  turn_keeps {slot} j h s u =
      chosen (Kept slot u) (ltb (j + 1) 5) _ _
      (λ e. let l = ltb-true (j + 1) 5 e in let is : 0 + j ≡ j = omega arith in
      input_keeps j (s.unpublished _ (rw is at (sampled j (omega arith)))) (s.unpublished _ (rw is at (processed j (omega arith)))) (own inputs j (omega arith) (omega arith)) (s.memory (omega arith)) (s.unlisted (omega arith)) _ u)
      (λ e. let g = ltb-false (j + 1) 5 e in chosen (Kept slot u) (ltb (j + 1) 9) _ _
      (λ e. let l = ltb-true (j + 1) 9 e in let is : 4 + (j - 4) ≡ j = omega arith in let k : j + 1 - 4 ≡ j - 4 + 1 = omega arith in
      rw k (math_keeps (j - 4) (s.unpublished _ (rw is at (calculated (j - 4) (omega arith)))) (own maths (j - 4) (omega arith) (omega arith)) u))
      (λ e. let g = ltb-false (j + 1) 9 e in chosen (Kept slot u) (ltb (j + 1) 15) _ _
      (λ e. let l = ltb-true (j + 1) 15 e in let is : 8 + (j - 8) ≡ j = omega arith in let k : j + 1 - 8 ≡ j - 8 + 1 = omega arith in
      rw k (table_keeps (j - 8) (s.unpublished _ (rw is at (looked_up_lem (j - 8) (omega arith)))) (own tables (j - 8) (omega arith) (omega arith)) u))
      (λ e. let g = ltb-false (j + 1) 15 e in chosen (Kept slot u) (ltb (j + 1) 17) _ _
      (λ e. let l = ltb-true (j + 1) 17 e in let is : 14 + (j - 14) ≡ j = omega arith in let k : j + 1 - 14 ≡ j - 14 + 1 = omega arith in
      rw k (logic_keeps (j - 14) (s.unpublished _ (rw is at (selected (j - 14) (omega arith)))) (s.unpublished _ (rw is at (passed_on (j - 14) (omega arith)))) (own logics (j - 14) (omega arith) (omega arith)) u))
      (λ e. let l = ltb-false (j + 1) 17 e in let is : 16 + (j - 16) ≡ j = omega arith in let k : j + 1 - 16 ≡ j - 16 + 1 = omega arith in
      rw k (output_keeps (j - 16) (s.ramp (omega arith) h) (s.unpublished _ (rw is at (commanded (j - 16) (omega arith)))) u)))))
    where
      own : (kind k : ℕ) → j ≡ kind + k → j < 16 → Clear slot kind (k + 1)
      own kind k e l = let clear = s.signal l in (λ q. clear.0 (omega arith), λ q. clear.1 (omega arith))

  module _ (unit : List ℕ) where
    -- a slot that none of the first r turns sets
    pub through : {slot : ℕ} (r : ℕ) → r ≤ 20 → ((j : ℕ) → j < r → Spared slot j) → Kept slot (recalled unit) (at_turn samples unit r)
    unfolding at_turn
    through r h spared = all_keep r (turn_of samples) (λ k l. turn_keeps k (omega arith) (spared k l)) same

    pub until : {slot : ℕ} (r : ℕ) → r ≤ 20 → slot < before_at → ((j : ℕ) → j < r → Spared slot j) → Kept slot unit (at_turn samples unit r)
    until r h low spared = joined (recalled_keeps low unit) (through r h spared)

    -- a slot that no turn behind turn k + 1 sets is as it left it
    pub from_then : {slot : ℕ} (k r : ℕ) → k < r → r ≤ 20 → ((j : ℕ) → k < j → j < 20 → Spared slot j) → Kept slot (turn_of samples (k + 1) (at_turn samples unit k)) (at_turn samples unit r)
    unfolding at_turn
    from_then k r h l spared = own_turn (turn_of samples) 20 k (λ j later g. turn_keeps j g (spared j later g)) (recalled unit) r h l

    -- so is a slot that only turn k + 1 sets
    pub since : {slot : ℕ} (k r : ℕ) → k < r → r ≤ 20 → ((j : ℕ) → j < 20 → (j ≡ k → ⊥) → Spared slot j) → Kept slot (turn_of samples (k + 1) (at_turn samples unit k)) (at_turn samples unit r)
    since k r h l spared = from_then k r h l (λ j later g. spared j g (λ e. omega arith))

    pub all_turns : marked (registered (at_turn samples unit 20)) ≡ ticked samples unit
    unfolding at_turn turn_of each ticked first
    all_turns = refl

    pub to_last : {slot : ℕ} {u : List ℕ} → (slot ≡ slot_of 0x1001 0 → ⊥) → slot < ticked_at → Kept slot u (at_turn samples unit 20) → Kept slot u (ticked samples unit)
    unfolding marked
    to_last {slot} {u} other low kept = subst (Kept slot u) all_turns (joined kept (joined (register_keeps other (at_turn samples unit 20)) (set_keeps _ ticked_at 1 (λ e. omega arith))))

-- ---- the two words of a signal, which only its own turn sets

row_spared : {row slot : ℕ} → row < 16 → OfRow row slot → (j : ℕ) → (j ≡ row → ⊥) → Spared slot j
unfolding place signals_at runs_at flags_at ramps_at
row_spared h r j other =
    record {
      unpublished = λ at p e. omega (arith, r.low, stands p, fixed_last);
      memory = λ l. (λ e. omega (arith, r.high), λ e. omega (arith, r.high));
      signal = λ l. (λ e. other (omega (arith, r.low, r.high)), λ e. other (omega (arith, r.low, r.high)));
      ramp = λ l q w g e. omega (arith, r.high);
      unlisted = λ l. (λ e. omega (arith, r.low, kept_last, counted), λ low high. omega (arith, r.low, fixed_last));
    }

-- before what is kept of the last tick
row_low : {row slot : ℕ} → row < 16 → OfRow row slot → slot < before_at
unfolding place
row_low h r = omega (arith, r.high, signals_before)

row_last : {row slot : ℕ} → OfRow row slot → slot ≡ slot_of 0x1001 0 → ⊥
unfolding place signals_at
row_last r e = omega (arith, r.low, register_first, counted)

module _ (samples : List ℤ) (unit : List ℕ) (q : ℕ) (h : q < 16) where
  -- once its turn is over a block holds what it laid down
  held_since : (r : ℕ) → q < r → r ≤ 20 → at_row (at_turn samples unit r) q ≡ at_row (turn_of samples (q + 1) (at_turn samples unit q)) q
  held_since r l m = row_kept q (λ slot o. since samples unit q r l m (λ j g other. row_spared h o j other))

  pub own : at_row (ticked samples unit) q ≡ at_row (turn_of samples (q + 1) (at_turn samples unit q)) q
  own = row_kept q (λ slot o. to_last samples unit (row_last o) (below_mark (row_low h o)) (since samples unit q 20 (omega arith) (lit≤ tt) (λ j g other. row_spared h o j other)))

pub seen_by : SeenBy
seen_by samples unit r q h l = (
  λ g. held_since samples unit q l r g h ∙ sym (own samples unit q l),
  λ g. row_kept q (λ slot o. until samples unit r h (row_low l o) (λ j k. row_spared l o j (λ e. omega arith))),
)

-- ---- a word that a block publishes, which only its own turn sets

own_only : {q at : ℕ} → Publishes q at → (j : ℕ) → (j ≡ q → ⊥) → Spared at j
unfolding place signals_at runs_at flags_at ramps_at
own_only p j other =
    let mine = stands p in
    record {
      unpublished = λ b o e. other (sym (stands o).owned ∙ ap (λ (a : ℕ). owner (a - slot_of 0x1001 0)) (sym e) ∙ mine.owned);
      memory = λ l. (λ e. omega (arith, fixed_last), λ e. omega (arith, fixed_last));
      signal = λ l. (λ e. omega (arith, fixed_last), λ e. omega (arith, fixed_last));
      ramp = λ l q w g e. omega (arith, fixed_last);
      unlisted = λ l. (λ e. omega (arith, kept_last, register_first, counted), λ low high. omega (arith, fixed_last));
    }

pub shown_low : {q at : ℕ} → Publishes q at → at < before_at
shown_low p = omega (arith, stands p, fixed_last, signals_behind, signals_before)

module _ (samples : List ℤ) (unit : List ℕ) {q at : ℕ} (p : Publishes q at) (h : q < 20) where
  pub shown : get_or (ticked samples unit) at 0 ≡ get_or (turn_of samples (q + 1) (at_turn samples unit q)) at 0
  shown = let mine = stands p in
      (to_last samples unit (λ e. omega arith) (below_mark (shown_low p)) (since samples unit q 20 h (lit≤ tt) (λ j l other. own_only p j other))).word

  pub last_shown : get_or (at_turn samples unit q) at 0 ≡ get_or unit at 0
  last_shown = (until samples unit q (omega arith) (shown_low p) (λ j l. own_only p j (λ e. omega arith))).word

-- ---- an input's run and flag, and the six words of an output's ramp

pub data Remembers : ℕ → ℕ → Type 0 where
  run : (k : ℕ) → k < 4 → Remembers (inputs + k) (runs_at + k)
  flag : (k : ℕ) → k < 4 → Remembers (inputs + k) (flags_at + k)
  ramp : (k w : ℕ) → k < 4 → w < 6 → Remembers (blocks + k) (ramp_word k w)

memory_spared : {row at : ℕ} → Remembers row at → (j : ℕ) → (j ≡ row → ⊥) → Spared at j
unfolding place signals_at runs_at flags_at ramps_at
memory_spared (run k h) j other =
    record {
      unpublished = λ b p e. omega (arith, stands p, fixed_last);
      memory = λ l. (λ e. other (omega arith), λ e. omega arith);
      signal = λ l. (λ e. omega arith, λ e. omega arith);
      ramp = λ l q w g e. omega arith;
      unlisted = λ l. (λ e. omega (arith, kept_last, counted), λ low high. omega (arith, fixed_last));
    }
memory_spared (flag k h) j other =
    record {
      unpublished = λ b p e. omega (arith, stands p, fixed_last);
      memory = λ l. (λ e. omega arith, λ e. other (omega arith));
      signal = λ l. (λ e. omega arith, λ e. omega arith);
      ramp = λ l q w g e. omega arith;
      unlisted = λ l. (λ e. omega (arith, kept_last, counted), λ low high. omega (arith, fixed_last));
    }
memory_spared (ramp k w h g) j other =
    record {
      unpublished = λ b p e. omega (arith, stands p, fixed_last);
      memory = λ l. (λ e. omega arith, λ e. omega arith);
      signal = λ l. (λ e. omega arith, λ e. omega arith);
      ramp = λ l q v f e. other (omega arith);
      unlisted = λ l. (λ e. omega (arith, kept_last, counted), λ low high. omega (arith, fixed_last));
    }

not_register : {row at : ℕ} → Remembers row at → at ≡ slot_of 0x1001 0 → ⊥
unfolding signals_at runs_at flags_at ramps_at
not_register (run k h) e = omega (arith, register_first, counted)
not_register (flag k h) e = omega (arith, register_first, counted)
not_register (ramp k w h g) e = omega (arith, register_first, counted)

memory_low : {row at : ℕ} → Remembers row at → at < before_at
memory_low (run k h) = omega (arith, runs_before)
memory_low (flag k h) = omega (arith, flags_before)
memory_low (ramp k w h g) = omega (arith, ramps_before)

module _ (samples : List ℤ) (unit : List ℕ) {row at : ℕ} (m : Remembers row at) (h : row < 20) where
  pub remembered : get_or (ticked samples unit) at 0 ≡ get_or (turn_of samples (row + 1) (at_turn samples unit row)) at 0
  remembered = (to_last samples unit (not_register m) (below_mark (memory_low m)) (since samples unit row 20 (omega arith) (lit≤ tt) (λ j l other. memory_spared m j other))).word

  pub last_remembered : get_or (at_turn samples unit row) at 0 ≡ get_or unit at 0
  last_remembered = (until samples unit row (omega arith) (memory_low m) (λ j l. memory_spared m j (λ e. omega arith))).word

-- ---- the turns by their blocks

module _ (samples : List ℤ) (k : ℕ) where
  pub input_turn_lem : k < 4 → (u : List ℕ) → turn_of samples (inputs + k + 1) u ≡ input_turn (get_or samples k (pos 0)) (k + 1) u
  unfolding turn_of first
  input_turn_lem h u = let i : 0 + k + 1 ≡ k + 1 = omega arith in let e : k + 1 - 1 ≡ k = omega arith in rw (i, lt-ltb (k + 1) 5 (omega arith), e)

  pub math_turn_lem : k < 4 → (u : List ℕ) → turn_of samples (maths + k + 1) u ≡ math_turn (k + 1) u
  unfolding turn_of first
  math_turn_lem h u = let e : 4 + k + 1 - 4 ≡ k + 1 = omega arith in rw (le-ltb (4 + k + 1) 5 (omega arith), lt-ltb (4 + k + 1) 9 (omega arith), e)

  pub table_turn_lem : k < 6 → (u : List ℕ) → turn_of samples (tables + k + 1) u ≡ table_turn (k + 1) u
  unfolding turn_of first
  table_turn_lem h u = let e : 8 + k + 1 - 8 ≡ k + 1 = omega arith in
      rw (le-ltb (8 + k + 1) 5 (omega arith), le-ltb (8 + k + 1) 9 (omega arith), lt-ltb (8 + k + 1) 15 (omega arith), e)

  pub logic_turn_lem : k < 2 → (u : List ℕ) → turn_of samples (logics + k + 1) u ≡ logic_turn (k + 1) u
  unfolding turn_of first
  logic_turn_lem h u = let e : 14 + k + 1 - 14 ≡ k + 1 = omega arith in
      rw (le-ltb (14 + k + 1) 5 (omega arith), le-ltb (14 + k + 1) 9 (omega arith), le-ltb (14 + k + 1) 15 (omega arith), lt-ltb (14 + k + 1) 17 (omega arith), e)

  pub output_turn_lem : k < 4 → (u : List ℕ) → turn_of samples (16 + k + 1) u ≡ output_turn (k + 1) u
  unfolding turn_of first
  output_turn_lem h u = let e : 16 + k + 1 - 16 ≡ k + 1 = omega arith in
      rw (le-ltb (16 + k + 1) 5 (omega arith), le-ltb (16 + k + 1) 9 (omega arith), le-ltb (16 + k + 1) 15 (omega arith), le-ltb (16 + k + 1) 17 (omega arith), e)

-- after the tick a block holds what its own turn laid down
module _ (samples : List ℤ) (unit : List ℕ) (k : ℕ) where
  by_own : (kind : ℕ) → kind + k < 16 → {turn : List ℕ → List ℕ} → ((u : List ℕ) → turn_of samples (kind + k + 1) u ≡ turn u)
      → held (ticked samples unit) kind (k + 1) ≡ held (turn (at_turn samples unit (kind + k))) kind (k + 1)
  unfolding held
  by_own kind h is = let e : kind + (k + 1 - 1) ≡ kind + k = omega arith in
      rw e (own samples unit (kind + k) h ∙ ap (λ (u : List ℕ). at_row u (kind + k)) (is (at_turn samples unit (kind + k))))

  pub input_own : k < 4 → held (ticked samples unit) inputs (k + 1) ≡ held (input_turn (get_or samples k (pos 0)) (k + 1) (at_turn samples unit (inputs + k))) inputs (k + 1)
  input_own h = by_own inputs (omega arith) (input_turn_lem samples k h)

  pub math_own : k < 4 → held (ticked samples unit) maths (k + 1) ≡ held (math_turn (k + 1) (at_turn samples unit (maths + k))) maths (k + 1)
  math_own h = by_own maths (omega arith) (math_turn_lem samples k h)

  pub table_own : k < 6 → held (ticked samples unit) tables (k + 1) ≡ held (table_turn (k + 1) (at_turn samples unit (tables + k))) tables (k + 1)
  table_own h = by_own tables (omega arith) (table_turn_lem samples k h)

  pub logic_own : k < 2 → held (ticked samples unit) logics (k + 1) ≡ held (logic_turn (k + 1) (at_turn samples unit (logics + k))) logics (k + 1)
  logic_own h = by_own logics (omega arith) (logic_turn_lem samples k h)
