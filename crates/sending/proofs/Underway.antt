-- A restore list underway: what is left to send, and the words of a unit that took what was sent so far.
-- Assumes nothing.
use mathlib.Core.Path.{◌≡◌, refl, sym, ap, ◌∙◌, subst}
use mathlib.Core.Bool.{Bool, true, false}
use mathlib.Core.List.{List, [], ◌∷◌}
use mathlib.Core.Logic.{◌⊎◌, inl, inr}
use Prim.Native.Nat.{ℕ, zero, suc, ◌+◌, ◌<◌}
use native.Mathlib.Omega.{arith}
use lib.Dec.{eqb}
use lib.ListN.{get_or, set, length}
use lib.Seq.{get_or-set_same, get_or-set_other}
use borrow.Author.Tests.{eqb-true, eqb-false, le-ltb}
use Rattle.numbers.specs.Choice.{first}
use Rattle.dictionary.specs.Names.{configured}
use Rattle.dictionary.proofs.Tabulate.{tabulate}
use Rattle.entries.specs.Judge.{judged}
use Rattle.entries.specs.Valid.{Valid}
use Rattle.std.specs.Prelude.{Ok}
use Rattle.entries.proofs.Allowed.{allowed}
use Rattle.sending.specs.Sending.{sends}
use Rattle.sending.proofs.Agenda.{Call, turns, call_at, slot_inside}
use Rattle.sending.proofs.Clock.{Stands, due, stage, stage_in, stage_valid}
use Rattle.sending.proofs.Turns.{passing, goes, coming, all_coming, due_now, due_call, not_due, past_due, quiet, due_early}
use Rattle.sending.proofs.Resumed.{resumed}

-- ---- underway before a turn

pub record Underway (a b left words : List ℕ) : Type 0 where
  turn : ℕ
  more : ℕ
  all : turn + more ≡ turns
  rest : left ≡ coming a b more turn
  now : Stands a b turn words

-- at a turn at which something is sent
record Sending (a b : List ℕ) (slot : ℕ) (left words : List ℕ) : Type 0 where
  turn : ℕ
  more : ℕ
  all : turn + suc more ≡ turns
  goes_on : goes a b (call_at turn) ≡ true
  slot_is : slot ≡ (call_at turn).slot
  rest : left ≡ coming a b more (suc turn)
  now : Stands a b turn words

-- turns pass until something is sent, or to the end
module _ (a b left words : List ℕ) (C : Type 0) where
  pass : (left ≡ [] → Stands a b turns words → C) → ((slot : ℕ) (later : List ℕ) → left ≡ slot ∷ later → Sending a b slot later words → C)
      → (more turn : ℕ) → turn + more ≡ turns → left ≡ coming a b more turn → Stands a b turn words → C
  unfolding coming passing tabulate first
  pass end send zero turn all e now = end e (λ k h. now k h ∙ ap (λ (t : ℕ). stage a b t k) (omega arith))
  pass end send (suc more) turn all e now = go (goes a b (call_at turn)) refl e (λ f n. pass end send more (suc turn) (omega arith) f n)
    where
      later : List ℕ
      later = passing (goes a b) (tabulate more (suc turn) call_at)

      go : (x : Bool) → goes a b (call_at turn) ≡ x → left ≡ first x ((call_at turn).slot ∷ later) later
          → (left ≡ later → Stands a b (suc turn) words → C) → C
      go true g f again = send (call_at turn).slot later f (record { turn = turn; more = more; all = all; goes_on = g; slot_is = refl; rest = refl; now = now })
      go false g f again = again f (λ k h. now k h ∙ quiet a b turn k g h)

module _ {a b : List ℕ} {slot : ℕ} {left words : List ℕ} where
  sending : Underway a b (slot ∷ left) words → Sending a b slot left words
  sending u =
      pass a b (slot ∷ left) words (Sending a b slot left words) (λ e n. let z : ◌≡◌ {A = ℕ} 0 1 = cc in absurd (omega arith))
      (λ s l e n. record { turn = n.turn; more = n.more; all = n.all; goes_on = n.goes_on; slot_is = cc; rest = cc; now = n.now })
      u.more u.turn u.all u.rest u.now

  -- ---- what is sent next is an entry of the configuration, and the write of it is the next step

  pub inside : Underway a b (slot ∷ left) words → slot < configured
  inside u =
      let s = sending u in
      subst (λ (x : ℕ). x < configured) (sym s.slot_is) (slot_inside s.turn (omega (arith, s.all)))

  pub step : Underway a b (slot ∷ left) words → slot < length words → Underway a b left (set words slot (get_or b slot 0))
  step u l =
      let s = sending u in
      record { turn = suc s.turn; more = s.more; all = omega (arith, s.all); rest = s.rest; now = λ k h. go s k h (eqb k slot) refl }
    where
      go : (s : Sending a b slot left words) (k : ℕ) → k < configured → (x : Bool) → eqb k slot ≡ x → get_or (set words slot (get_or b slot 0)) k 0 ≡ stage a b (suc s.turn) k
      go s k h true e =
          rw (eqb-true k slot e)
          (get_or-set_same words slot (get_or b slot 0) 0 l ∙ sym (past_due a b (suc s.turn) slot (omega (arith, ap (due a b) s.slot_is, due_now a b s.turn (omega (arith, s.all)) s.goes_on))))
      go s k h false e =
          get_or-set_other words slot k (get_or b slot 0) 0 (eqb-false k slot e) ∙ s.now k h
          ∙ not_due a b s.turn k (λ d. eqb-false k slot e (sym (s.slot_is ∙ ap (λ (c : Call). c.slot) (due_call a b k s.turn h d))))

module _ {a b left words : List ℕ} where
  pub valid : Valid a → Valid b → Underway a b left words → Valid words
  valid v w u = stage_valid a b words u.turn u.now v w

  -- only the configuration's words count
  pub as_well : {other : List ℕ} → Underway a b left words → ((k : ℕ) → k < configured → get_or other k 0 ≡ get_or words k 0) → Underway a b left other
  as_well u same = record { turn = u.turn; more = u.more; all = u.all; rest = u.rest; now = λ k h. same k h ∙ u.now k h }

  -- each of them is the first configuration's or the second's
  pub either : Underway a b left words → (k : ℕ) → k < configured → (get_or words k 0 ≡ get_or a k 0) ⊎ (get_or words k 0 ≡ get_or b k 0)
  either u k h = rw (u.now k h) (stage_in a b (λ x. (x ≡ get_or a k 0) ⊎ (x ≡ get_or b k 0)) u.turn k (inl refl) (inr refl))

  -- made anew from these words, the list is what is left
  pub again : Underway a b left words → sends words b ≡ left
  again u = all_coming words b ∙ ap (λ (n : ℕ). coming words b n 0) (sym u.all) ∙ resumed a b words u.turn u.now u.more u.turn 0 u.all (omega arith) ∙ sym u.rest

-- so the next write is accepted
pub accepted : {a b left words : List ℕ} {slot : ℕ} → Valid a → Valid b → Underway a b (slot ∷ left) words → slot < length words → judged words slot (get_or b slot 0) ≡ Ok tt
accepted {b = b} {words = words} {slot = slot} v w u l = allowed words slot (get_or b slot 0) (inside u) l (valid v w (step u l))

-- ---- the beginning and the end

pub begun : {a b words : List ℕ} → ((k : ℕ) → k < configured → get_or words k 0 ≡ get_or a k 0) → Underway a b (sends a b) words
unfolding stage first
begun {a} {b} {words} same =
    record { turn = 0; more = turns; all = omega arith; rest = all_coming a b; now = λ k h. rw (le-ltb (due a b k) 0 (omega arith)) (same k h) }

pub arrived : {a b words : List ℕ} → Underway a b [] words → (k : ℕ) → k < configured → get_or words k 0 ≡ get_or b k 0
arrived {a} {b} {words} u k h =
    pass a b [] words (get_or words k 0 ≡ get_or b k 0) (λ e n. n k h ∙ past_due a b turns k (due_early a b k h))
    (λ s l e n. let z : ◌≡◌ {A = ℕ} 0 1 = cc in absurd (omega arith)) u.more u.turn u.all u.rest u.now
