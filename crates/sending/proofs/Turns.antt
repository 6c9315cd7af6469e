-- From one turn of a restore list to the next: what is sent, and which words change.
-- Assumes nothing.
use mathlib.Core.Path.{◌≡◌, refl, sym, ap, ◌∙◌}
use mathlib.Core.Bool.{Bool, true, false, not, ◌&&◌, and-eq-true_iff, and-true}
use mathlib.Core.List.{List, [], ◌∷◌, ◌++◌, map, reverse, append-nil}
use Prim.Native.Nat.{ℕ, suc, ◌+◌, ◌-◌, ◌<◌}
use native.Mathlib.Omega.{arith}
use lib.Dec.{eqb, ltb}
use lib.ListN.{get_or}
use borrow.Author.Tests.{eqb-true, eqb-false, ltb-true, ltb-false, lt-ltb, le-ltb, not-true, not-false}
use Rattle.numbers.specs.Choice.{first}
use Rattle.numbers.proofs.Choices.{chosen}
use Rattle.dictionary.specs.Names.{configured}
use Rattle.dictionary.proofs.Tabulate.{tabulate}
use Rattle.sending.specs.Sending.{order, picked, differs, grows, rises, falls, sent, sends}
use Rattle.sending.proofs.Agenda.{Call, call, turns, turn_of, call_at, place, agenda_computed, called, turn_at, place_inside}
use Rattle.sending.proofs.Clock.{due, stage, stage_in}
use Rattle.sending.proofs.Picked.{picked_reverse}

-- ---- the calls at which something is sent

unfoldable pub passing : (Call → Bool) → List Call → List ℕ
passing goes [] = []
passing goes (c ∷ cs) = first (goes c) (c.slot ∷ passing goes cs) (passing goes cs)

passing_front : (goes : Call → Bool) (up : Bool) (xs : List ℕ) (cs : List Call) → passing goes (map (call up) xs ++ cs) ≡ picked (λ s. goes (call up s)) xs ++ passing goes cs
unfolding passing picked first
passing_front goes up [] cs = refl
passing_front goes up (x ∷ xs) cs = go (goes (call up x)) (passing_front goes up xs cs)
  where
    go : (t : Bool) → passing goes (map (call up) xs ++ cs) ≡ picked (λ s. goes (call up s)) xs ++ passing goes cs
        → first t (x ∷ passing goes (map (call up) xs ++ cs)) (passing goes (map (call up) xs ++ cs))
        ≡ first t (x ∷ picked (λ s. goes (call up s)) xs) (picked (λ s. goes (call up s)) xs) ++ passing goes cs
    go true e = ap (λ (l : List ℕ). x ∷ l) e
    go false e = e

module _ (a b : List ℕ) where
  unfoldable pub goes : Call → Bool
  goes c = first c.up (rises a b c.slot) (falls a b c.slot)

  -- what is sent in so many turns from one on
  unfoldable pub coming : ℕ → ℕ → List ℕ
  coming n t = passing goes (tabulate n t call_at)

  two_ways : (slots : List ℕ) → sent a b slots ≡ passing goes (map (call true) (reverse slots) ++ map (call false) slots)
  unfolding sent goes first passing
  two_ways slots =
      let down = passing_front goes true (reverse slots) (map (call false) slots) in
      let up = passing_front goes false slots [] in
      rw (picked_reverse (rises a b) slots, ← append-nil (picked (falls a b) slots), ← up, append-nil (map (call false) slots)) (sym down)

  pub all_coming : sends a b ≡ coming turns 0
  unfolding sends coming
  all_coming = two_ways order ∙ ap (passing goes) agenda_computed

  -- ---- a slot's own call

  way : (up : Bool) (slot : ℕ) → goes (call up slot) ≡ true → grows a b slot ≡ up
  unfolding goes first rises falls
  way true slot e = ((and-eq-true_iff (differs a b slot) (grows a b slot)).0 e).1
  way false slot e = not-true (grows a b slot) ((and-eq-true_iff (differs a b slot) (not (grows a b slot))).0 e).1

  own_call : (slot : ℕ) → goes (call (grows a b slot) slot) ≡ differs a b slot
  unfolding goes first rises falls
  own_call slot = go (grows a b slot)
    where
      go : (up : Bool) → first up (differs a b slot && up) (differs a b slot && not up) ≡ differs a b slot
      go true = and-true (differs a b slot)
      go false = and-true (differs a b slot)

  pub due_call : (k t : ℕ) → k < configured → due a b k ≡ t → call_at t ≡ call (grows a b k) k
  unfolding due
  due_call k t h e = rw (← e) (called (grows a b k) k h)

  -- and at which something is sent it is the slot's turn
  pub due_now : (t : ℕ) → t < turns → goes (call_at t) ≡ true → due a b (call_at t).slot ≡ t
  unfolding due
  due_now t h g = let c = call_at t in ap (λ (up : Bool). turn_of up c.slot) (way c.up c.slot g) ∙ turn_at t h

  alike : (k : ℕ) → differs a b k ≡ false → get_or a k 0 ≡ get_or b k 0
  unfolding differs
  alike k e = eqb-true (get_or a k 0) (get_or b k 0) (not-false (eqb (get_or a k 0) (get_or b k 0)) e)

  -- ---- from one turn to the next

  pub not_due : (t k : ℕ) → (due a b k ≡ t → ⊥) → stage a b t k ≡ stage a b (suc t) k
  unfolding stage
  not_due t k n = ap (λ (x : Bool). first x (get_or b k 0) (get_or a k 0)) (go (ltb (due a b k) t) refl)
    where
      go : (x : Bool) → ltb (due a b k) t ≡ x → ltb (due a b k) t ≡ ltb (due a b k) (suc t)
      go true e = let h = ltb-true (due a b k) t e in e ∙ sym (lt-ltb (due a b k) (suc t) (omega arith))
      go false e = let h = ltb-false (due a b k) t e in e ∙ sym (le-ltb (due a b k) (suc t) (omega (arith, n)))

  pub past_due : (t k : ℕ) → due a b k < t → stage a b t k ≡ get_or b k 0
  unfolding stage first
  past_due t k h = rw (lt-ltb (due a b k) t h)

  pub quiet : (t k : ℕ) → goes (call_at t) ≡ false → k < configured → stage a b t k ≡ stage a b (suc t) k
  quiet t k g h = go (eqb (due a b k) t) refl
    where
      go : (x : Bool) → eqb (due a b k) t ≡ x → stage a b t k ≡ stage a b (suc t) k
      go true e =
          let same = alike k (sym (own_call k) ∙ ap goes (sym (due_call k t h (eqb-true (due a b k) t e))) ∙ g) in
          stage_in a b (λ x. x ≡ get_or b k 0) t k same refl ∙ sym (stage_in a b (λ x. x ≡ get_or b k 0) (suc t) k same refl)
      go false e = not_due t k (eqb-false (due a b k) t e)

-- ---- every turn comes

pub due_early : (a b : List ℕ) (k : ℕ) → k < configured → due a b k < turns
unfolding due turn_of turns
due_early a b k h =
    chosen (λ t. t < configured + configured) (grows a b k) (configured - suc (place k)) (configured + place k)
    (λ e. omega (arith, place_inside k h)) (λ e. omega (arith, place_inside k h))
