-- What a restore list weighs, at so much for a record of each entry: what differs weighs, and a write spares at most its own entry.
-- Assumes nothing.
use mathlib.Core.Path.{◌≡◌, refl, ap, ◌∙◌, fun_ext}
use mathlib.Core.Bool.{Bool, true, false, not, ◌&&◌}
use mathlib.Core.List.{List, ◌++◌}
use Prim.Native.Nat.{ℕ, ◌+◌, ◌-◌, ◌<◌, ◌≤◌}
use native.Mathlib.Omega.{arith}
use lib.Dec.{eqb}
use lib.ListN.{get_or, set}
use lib.Seq.{get_or-set_other}
use borrow.Author.Tests.{eqb-false, eq-eqb}
use Rattle.numbers.specs.Choice.{first}
use Rattle.numbers.proofs.Choices.{chosen}
use Rattle.dictionary.specs.Names.{configured, slot_of}
use Rattle.sending.specs.Sending.{slots_from, stretch, order, differs, grows, rises, falls, sent, sends, total}
use Rattle.sending.proofs.Totals.{total_none, total_least, total_sum, total_append, total_reverse, total_picked, total_stretch, once}

-- ---- the order is a rearrangement of all slots

whole : stretch 0 configured
    ≡ stretch 0 (slot_of 0x7120 1) ++ stretch (slot_of 0x7120 1) (slot_of 0x7148 1) ++ stretch (slot_of 0x7148 1) (slot_of 0x7149 1) ++ stretch (slot_of 0x7149 1) configured
unfolding stretch slots_from configured slot_of
whole = refl

total_order : (f : ℕ → ℕ) → total f order ≡ total f (stretch 0 configured)
unfolding order
total_order f = rw whole (simp (total_append f) (omega arith))

-- ---- of two configurations, what differs

module _ (f : ℕ → ℕ) where
  unfoldable pub weight : List ℕ → List ℕ → ℕ
  weight a b = total (λ s. first (differs a b s) (f s) 0) (stretch 0 configured)

  module _ (a b : List ℕ) where
    either_way : (s : ℕ) → first (rises a b s) (f s) 0 + first (falls a b s) (f s) 0 ≡ first (differs a b s) (f s) 0
    unfolding rises falls first
    either_way s = go (differs a b s) (grows a b s)
      where
        go : (d r : Bool) → first (d && r) (f s) 0 + first (d && not r) (f s) 0 ≡ first d (f s) 0
        go true true = omega arith
        go true false = omega arith
        go false r = refl

    total_sent : (l : List ℕ) → total f (sent a b l) ≡ total (λ s. first (differs a b s) (f s) 0) l
    unfolding sent
    total_sent l =
        simp (total_append f, total_reverse f, total_picked f)
        (total_sum (λ s. first (rises a b s) (f s) 0) (λ s. first (falls a b s) (f s) 0) l ∙ ap (λ (g : ℕ → ℕ). total g l) (fun_ext either_way))

    pub sends_weight : total f (sends a b) ≡ weight a b
    unfolding sends weight
    sends_weight = total_sent order ∙ total_order (λ s. first (differs a b s) (f s) 0)

    pub weight_within : weight a b ≤ total f (stretch 0 configured)
    unfolding weight
    weight_within =
        total_least (λ s. first (differs a b s) (f s) 0) f (λ s. chosen (λ n. n ≤ f s) (differs a b s) (f s) 0 (λ e. omega arith) (λ e. omega arith)) (stretch 0 configured)

    pub weight_none : ((k : ℕ) → k < configured → get_or a k 0 ≡ get_or b k 0) → weight a b ≡ 0
    unfolding weight differs first
    weight_none same =
        total_stretch (λ s. first (differs a b s) (f s) 0) (λ s. 0) configured (λ k h. rw (eq-eqb (get_or a k 0) (get_or b k 0) (same k h)))
        ∙ total_none (stretch 0 configured)

    -- only the configuration's words count
    pub weight_same : (c d : List ℕ) → ((k : ℕ) → k < configured → get_or a k 0 ≡ get_or c k 0) → ((k : ℕ) → k < configured → get_or b k 0 ≡ get_or d k 0) → weight a b ≡ weight c d
    unfolding weight differs
    weight_same c d olds news =
        total_stretch (λ s. first (differs a b s) (f s) 0) (λ s. first (differs c d s) (f s) 0) configured (λ k h. rw (olds k h, news k h))

    -- a write makes at most its own entry alike
    module _ (slot word : ℕ) where
      at_slot : (s : ℕ) → first (differs a b s) (f s) 0 ≤ first (differs (set a slot word) b s) (f s) 0 + first (eqb s slot) (f s) 0
      unfolding differs first
      at_slot s = go (eqb s slot) refl
        where
          go : (t : Bool) → eqb s slot ≡ t → first (differs a b s) (f s) 0 ≤ first (differs (set a slot word) b s) (f s) 0 + first t (f s) 0
          go true e = chosen (λ n. n ≤ first (differs (set a slot word) b s) (f s) 0 + f s) (differs a b s) (f s) 0 (λ d. omega arith) (λ d. omega arith)
          go false e = rw (get_or-set_other a slot s word 0 (eqb-false s slot e)) (omega arith)

      pub weight_step : weight a b ≤ f slot + weight (set a slot word) b
      unfolding stretch weight
      weight_step =
          omega (
            arith,
            total_least (λ s. first (differs a b s) (f s) 0) (λ s. first (differs (set a slot word) b s) (f s) 0 + first (eqb s slot) (f s) 0) at_slot (stretch 0 configured),
            total_sum (λ s. first (differs (set a slot word) b s) (f s) 0) (λ s. first (eqb s slot) (f s) 0) (stretch 0 configured),
            once f slot (configured - 0) 0,
          )
