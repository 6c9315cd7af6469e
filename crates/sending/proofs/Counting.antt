-- How many records a restore list has: one for each entry that differs, and a write makes at most one of them alike.
-- Assumes nothing.
use mathlib.Core.Path.{◌≡◌, sym, ◌∙◌}
use mathlib.Core.Bool.{true}
use mathlib.Core.List.{List}
use Prim.Native.Nat.{ℕ, suc, ◌<◌, ◌≤◌}
use native.Mathlib.Omega.{arith}
use lib.Dec.{ltb}
use lib.ListN.{length, get_or, set}
use borrow.Author.Tests.{ltb-true, lt-ltb}
use Rattle.numbers.specs.Choice.{first, every}
use Rattle.dictionary.specs.Names.{configured}
use Rattle.sending.specs.Sending.{stretch, picked, differs, sends, apart, total}
use Rattle.sending.proofs.Totals.{total_length, total_none, total_picked, total_stretch, none_fails, every_at}
use Rattle.sending.proofs.Weights.{weight, sends_weight, weight_within, weight_none, weight_same, weight_step}

-- ---- the list

module _ (a b : List ℕ) where
  pub total_within : (f : ℕ → ℕ) → total f (sends a b) ≤ total f (stretch 0 configured)
  total_within f = rw (sends_weight f a b) (weight_within f a b)

  pub all_inside : every (λ s. ltb s configured) (sends a b) ≡ true
  unfolding first
  all_inside =
      none_fails (λ s. ltb s configured) (sends a b)
      (omega (
        arith,
        total_within (λ s. first (ltb s configured) 0 1),
        total_stretch (λ s. first (ltb s configured) 0 1) (λ s. 0) configured (λ k h. rw (lt-ltb k configured h)),
        total_none (stretch 0 configured),
      ))

  pub each_inside : (n : ℕ) → n < length (sends a b) → get_or (sends a b) n 0 < configured
  each_inside n h = ltb-true (get_or (sends a b) n 0) configured (every_at (λ s. ltb s configured) (sends a b) all_inside n h)

-- ---- the number of entries that differ is what they weigh at one each

pub apart_weight : (a b : List ℕ) → apart a b ≡ weight (λ s. 1) a b
unfolding apart weight
apart_weight a b = total_length (picked (differs a b) (stretch 0 configured)) ∙ total_picked (λ s. 1) (differs a b) (stretch 0 configured)

module _ (a b : List ℕ) where
  pub sends_apart : length (sends a b) ≡ apart a b
  sends_apart = total_length (sends a b) ∙ sends_weight (λ s. 1) a b ∙ sym (apart_weight a b)

  pub none_apart : ((k : ℕ) → k < configured → get_or a k 0 ≡ get_or b k 0) → apart a b ≡ 0
  none_apart same = apart_weight a b ∙ weight_none (λ s. 1) a b same

  pub apart_same : (c d : List ℕ) → ((k : ℕ) → k < configured → get_or a k 0 ≡ get_or c k 0) → ((k : ℕ) → k < configured → get_or b k 0 ≡ get_or d k 0) → apart a b ≡ apart c d
  apart_same c d olds news = apart_weight a b ∙ weight_same (λ s. 1) a b c d olds news ∙ sym (apart_weight c d)

  pub one_less : (slot word : ℕ) → apart a b ≤ suc (apart (set a slot word) b)
  one_less slot word = omega (arith, apart_weight a b, apart_weight (set a slot word) b, weight_step (λ s. 1) a b slot word)
