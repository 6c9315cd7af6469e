-- A restore list that was cut: from the words on the way, what would be sent anew is what was left.
-- Assumes nothing.
use mathlib.Core.Path.{◌≡◌, refl, sym, ap, ◌∙◌}
use mathlib.Core.Bool.{Bool, true, false}
use mathlib.Core.List.{List}
use Prim.Native.Nat.{ℕ, zero, suc, ◌+◌, ◌<◌, ◌≤◌}
use native.Mathlib.Nat.{zero-add, suc-add}
use native.Mathlib.Omega.{arith}
use lib.Dec.{ltb}
use lib.ListN.{get_or}
use borrow.Author.Tests.{ltb-true, ltb-false, eq-eqb}
use Rattle.numbers.specs.Choice.{first}
use Rattle.dictionary.proofs.Tabulate.{tabulate}
use Rattle.entries.specs.Judge.{held}
use Rattle.sending.specs.Sending.{differs, grows, rises, falls}
use Rattle.sending.proofs.Agenda.{Call, turns, call_at, slot_inside}
use Rattle.sending.proofs.Clock.{Stands, due, stage}
use Rattle.sending.proofs.Turns.{passing, goes, coming, due_now}

-- only the word at the call's slot counts
same_word : (a b words : List ℕ) (c : Call) → get_or words c.slot 0 ≡ get_or a c.slot 0 → goes words b c ≡ goes a b c
unfolding goes rises falls differs grows held
same_word a b words c e = rw e

nothing_goes : (b : List ℕ) (c : Call) → goes b b c ≡ false
unfolding goes rises falls differs first
nothing_goes b c = rw (eq-eqb (get_or b c.slot 0) (get_or b c.slot 0) refl) (go c.up)
  where
    go : (up : Bool) → first up false false ≡ false
    go true = refl
    go false = refl

module _ (a b words : List ℕ) (turn : ℕ) (now : Stands a b turn words) where
  module _ (t : ℕ) (h : t < turns) where
    -- a slot whose turn is past holds the second word; the others hold the first
    settled : (x : Bool) → ltb (due a b (call_at t).slot) turn ≡ x → goes words b (call_at t) ≡ first x false (goes a b (call_at t))
    unfolding stage first
    settled x e = go x (now (call_at t).slot (slot_inside t h) ∙ ap (λ (y : Bool). first y (get_or b (call_at t).slot 0) (get_or a (call_at t).slot 0)) e)
      where
        go : (x : Bool) → get_or words (call_at t).slot 0 ≡ first x (get_or b (call_at t).slot 0) (get_or a (call_at t).slot 0) → goes words b (call_at t) ≡ first x false (goes a b (call_at t))
        go true w = same_word b b words (call_at t) w ∙ nothing_goes b (call_at t)
        go false w = same_word a b words (call_at t) w

    past : t < turn → goes words b (call_at t) ≡ false
    unfolding first
    past l = go (ltb (due a b (call_at t).slot) turn) refl (goes a b (call_at t)) refl
      where
        go : (x : Bool) → ltb (due a b (call_at t).slot) turn ≡ x → (y : Bool) → goes a b (call_at t) ≡ y → goes words b (call_at t) ≡ false
        go true e y f = settled true e
        go false e false f = settled false e ∙ f
        go false e true f = let d = due_now a b t h f in let n = ltb-false (due a b (call_at t).slot) turn e in absurd (omega arith)

    to_come : turn ≤ t → goes words b (call_at t) ≡ goes a b (call_at t)
    unfolding first
    to_come l = go (ltb (due a b (call_at t).slot) turn) refl (goes a b (call_at t)) refl
      where
        go : (x : Bool) → ltb (due a b (call_at t).slot) turn ≡ x → (y : Bool) → goes a b (call_at t) ≡ y → goes words b (call_at t) ≡ goes a b (call_at t)
        go true e false f = settled true e ∙ sym f
        go true e true f = let d = due_now a b t h f in let n = ltb-true (due a b (call_at t).slot) turn e in absurd (omega arith)
        go false e y f = settled false e

  rest : (n t : ℕ) → t + n ≡ turns → turn ≤ t → coming words b n t ≡ coming a b n t
  unfolding coming passing tabulate
  rest zero t e l = refl
  rest (suc n) t e l = rw (to_come t (omega arith) l, rest n (suc t) (omega arith) (omega arith))

  -- as many turns as were left, and those before them
  pub resumed : (more n t : ℕ) → turn + more ≡ turns → t + n ≡ turn → coming words b (n + more) t ≡ coming a b more turn
  unfolding coming passing tabulate first
  resumed more zero t e f = let here : t ≡ turn = omega arith in rw (zero-add more, here) (rest more turn e (omega arith))
  resumed more (suc n) t e f = rw (suc-add n more, past t (omega arith) (omega arith)) (resumed more n (suc t) e (omega arith))
