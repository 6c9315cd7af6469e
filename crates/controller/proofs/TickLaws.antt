-- What a tick leaves alone, what 1001h reads after it, and what no write touches: consequences of the definition `ticked`.
-- Assumes nothing.
use Prim.Native.Nat.{ℕ, ◌+◌, ◌<◌, ◌≤◌}
use mathlib.Core.Bool.{Bool}
use mathlib.Core.List.{List}
use mathlib.Core.Path.{◌≡◌, sym, ap, ◌∙◌, subst}
use native.Mathlib.Omega.{arith}
use lib.Dec.{lit<, lit≤}
use lib.IntN.{ℤ}
use lib.ListN.{length, set, length-set}
use lib.Seq.{get_or-set_same}
use Rattle.numbers.specs.Choice.{first}
use Rattle.dictionary.specs.Names.{slot_of, configured, words}
use Rattle.dictionary.specs.Unit.{signals_at, runs_at, flags_at, ramps_at, before_at, ticked_at, unit_size, unticked}
use Rattle.dictionary.proofs.Unticked.{signals_behind, signals_before, flags_before, mark_behind, words_stay}
use Rattle.dictionary.proofs.naming.NameLaws.{counted}
use Rattle.unit.specs.Entry.{entry, publish}
use Rattle.unit.specs.Held.{place}
use Rattle.input.specs.Inputs.{memory}
use Rattle.controller.specs.Register.{any_flagged, registered}
use Rattle.controller.specs.Tick.{marked, ticked}
use Rattle.controller.specs.TickLaws.{Unpublished, before, after, WordsKept, RegisterTold, FlagsUnwritten, RegisterUnwritten}
use Rattle.controller.specs.Turns.{at_turn}
use Rattle.controller.proofs.Kept.{Kept, Publishes, Unlisted, stands, fixed_last, kept_last, register_first, set_keeps, register_keeps}
use Rattle.controller.proofs.Turns.{Spared, below_mark, until, to_last, all_turns}

-- ---- the words that no block publishes

in_words : {slot : ℕ} → Unpublished slot → slot < words
in_words (before h) = omega (arith, counted)
in_words (after h g) = omega (arith, fixed_last)

no_register : {slot : ℕ} → Unpublished slot → slot ≡ slot_of 0x1001 0 → ⊥
no_register (before h) e = omega (arith, register_first, counted)
no_register (after h g) e = omega (arith, register_first, fixed_last, counted)

apart : {slot : ℕ} → Unpublished slot → (row at : ℕ) → Publishes row at → slot ≡ at → ⊥
apart (before h) row at p e = omega (arith, stands p, register_first, counted)
apart (after h g) row at p e = omega (arith, stands p)

unlisted : {slot : ℕ} → Unpublished slot → Unlisted slot
unlisted (before h) = (λ e. omega (arith, kept_last), λ low high. omega (arith, fixed_last, counted))
unlisted (after h g) = (λ e. omega (arith, kept_last, fixed_last, counted), λ low high. omega arith)

spared : {slot : ℕ} → Unpublished slot → (j : ℕ) → Spared slot j
unfolding place signals_at runs_at flags_at ramps_at
spared u j = let h = in_words u in record {
  unpublished = apart u j;
  memory = λ l. (λ e. omega arith, λ e. omega arith);
  signal = λ l. (λ e. omega arith, λ e. omega arith);
  ramp = λ l q w g e. omega arith;
  unlisted = λ l. unlisted u;
}

pub configured_kept : (slot : ℕ) → slot < configured → Unpublished slot
configured_kept slot h = before {slot = slot} (omega (arith, counted))

unpublished_low : {slot : ℕ} → Unpublished slot → slot < before_at
unpublished_low u = omega (arith, in_words u, signals_behind, signals_before)

pub first_word : Unpublished 0
first_word = before {slot = 0} (omega (arith, counted))

-- all of them are kept
abbrev pub Tame : List ℕ → List ℕ → Type 0
Tame u v = (slot : ℕ) → Unpublished slot → Kept slot u v

module _ (samples : List ℤ) (unit : List ℕ) where
  pub tame : (r : ℕ) → r ≤ 20 → Tame unit (at_turn samples unit r)
  tame r h slot p = until samples unit r h (unpublished_low p) (λ j l. spared p j)

  -- the number of all words stays too
  pub length_kept : length (ticked samples unit) ≡ length unit
  length_kept = (to_last samples unit (no_register first_word) (below_mark (unpublished_low first_word)) (tame 20 (lit≤ tt) 0 first_word)).size

  pub sized : length unit ≡ unit_size → (r : ℕ) → r ≤ 20 → length (at_turn samples unit r) ≡ unit_size
  sized size r h = (tame r h 0 first_word).size ∙ size

pub words_kept : WordsKept
words_kept samples unit slot p = (to_last samples unit (no_register p) (below_mark (unpublished_low p)) (tame samples unit 20 (lit≤ tt) slot p)).word

-- ---- 1001h

-- the flags are as they were where their words are
pub same_flags : {u v : List ℕ} → ((k : ℕ) → k < 4 → Kept (flags_at + k) u v) → any_flagged v ≡ any_flagged u
unfolding any_flagged memory
same_flags kept = rw ((kept 0 (lit< tt)).word, (kept 1 (lit< tt)).word, (kept 2 (lit< tt)).word, (kept 3 (lit< tt)).word)

-- a word that is no flag
flags_past : (u : List ℕ) (at word : ℕ) → ((k : ℕ) → k < 4 → flags_at + k ≡ at → ⊥) → any_flagged (set u at word) ≡ any_flagged u
flags_past u at word other = same_flags (λ k l. set_keeps u at word (other k l))

-- the write of 1001h does not touch them
told : (u : List ℕ) → length (registered u) ≡ unit_size → entry (registered u) 0x1001 0 ≡ first (any_flagged (registered u)) 0x21 0
unfolding entry registered publish unit_size flags_at runs_at signals_at
told u size =
    let kept : (k : ℕ) → Kept (flags_at + k) u (registered u) = λ k. register_keeps (λ e. omega (arith, register_first, counted)) u in
    get_or-set_same u (slot_of 0x1001 0) _ 0 (omega (arith, register_first, counted, (kept 0).size))
    ∙ sym (ap (λ (b : Bool). first b 0x21 0) (same_flags (λ k l. kept k)))

-- nor does the mark of the tick
still_told : (u : List ℕ) → length (marked (registered u)) ≡ unit_size → entry (marked (registered u)) 0x1001 0 ≡ first (any_flagged (marked (registered u))) 0x21 0
unfolding entry marked
still_told u size =
    let v = registered u in
    (set_keeps {slot = slot_of 0x1001 0} v ticked_at 1 (λ e. omega (arith, register_first, counted, signals_behind, signals_before, mark_behind))).word
    ∙ told u (sym (length-set v ticked_at 1) ∙ size)
    ∙ sym (ap (λ (b : Bool). first b 0x21 0) (flags_past v ticked_at 1 (λ k l e. omega (arith, flags_before, mark_behind))))

pub register_told : RegisterTold
register_told samples unit size =
    subst (λ (u : List ℕ). length u ≡ unit_size → entry u 0x1001 0 ≡ first (any_flagged u) 0x21 0) (all_turns samples unit) (still_told (at_turn samples unit 20))
    (length_kept samples unit ∙ size)

pub flags_unwritten : FlagsUnwritten
unfolding flags_at runs_at signals_at
flags_unwritten unit slot word h = flags_past unit slot word (λ k l e. omega (arith, counted))

pub register_unwritten : RegisterUnwritten
unfolding entry
register_unwritten unit slot word h = (set_keeps {slot = slot_of 0x1001 0} unit slot word (λ e. omega (arith, register_first))).word

-- nor does forgetting the tick touch them
module _ (unit : List ℕ) where
  pub flags_forgotten : any_flagged (unticked unit) ≡ any_flagged unit
  unfolding unticked
  flags_forgotten = flags_past unit ticked_at 0 (λ k l e. omega (arith, flags_before, mark_behind))

  pub register_forgotten : entry (unticked unit) 0x1001 0 ≡ entry unit 0x1001 0
  unfolding entry
  register_forgotten = words_stay unit (slot_of 0x1001 0) (omega (arith, register_first, counted))
