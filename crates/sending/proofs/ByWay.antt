-- The number of entries that differ: there and back, and by way of a third configuration.
-- Assumes nothing.
use mathlib.Core.Path.{◌≡◌, sym, ap, ◌∙◌, fun_ext}
use mathlib.Core.Bool.{Bool, true, false, and-false}
use mathlib.Core.List.{List}
use mathlib.Core.Logic.{◌⊎◌, inl, inr}
use Prim.Native.Nat.{ℕ, zero, suc, ◌+◌, ◌-◌, ◌<◌, ◌≤◌}
use native.Mathlib.Decide.{ℕ_discrete}
use native.Mathlib.Omega.{arith}
use lib.ListN.{get_or}
use borrow.Author.Tests.{eq-eqb, ne_eqb}
use Rattle.numbers.specs.Choice.{first}
use Rattle.numbers.proofs.Choices.{chosen}
use Rattle.dictionary.specs.Names.{configured}
use Rattle.sending.specs.Sending.{slots_from, stretch, differs, apart, total}
use Rattle.sending.specs.ByWay.{detour, aside}
use Rattle.sending.proofs.Counting.{apart_weight}
use Rattle.sending.proofs.Totals.{total_none, total_sum, total_stretch}
use Rattle.sending.proofs.Weights.{weight}

-- ---- of one entry

-- it is written, or not
abbrev one : List ℕ → List ℕ → ℕ → ℕ
one a b s = first (differs a b s) 1 0

apart_ones : (a b : List ℕ) → apart a b ≡ total (one a b) (stretch 0 configured)
unfolding weight
apart_ones a b = apart_weight a b

like : (a b : List ℕ) (s : ℕ) → get_or a s 0 ≡ get_or b s 0 → differs a b s ≡ false
unfolding differs
like a b s e = rw (eq-eqb (get_or a s 0) (get_or b s 0) e)

unlike : (a b : List ℕ) (s : ℕ) → (get_or a s 0 ≡ get_or b s 0 → ⊥) → differs a b s ≡ true
unfolding differs
unlike a b s n = rw (ne_eqb (get_or a s 0) (get_or b s 0) n)

-- ---- there and back

turned : (a b : List ℕ) (s : ℕ) → differs a b s ≡ differs b a s
turned a b s = by (ℕ_discrete (get_or a s 0) (get_or b s 0))
  where
    by : Dec (get_or a s 0 ≡ get_or b s 0) → differs a b s ≡ differs b a s
    by (yes e) = like a b s e ∙ sym (like b a s (sym e))
    by (no n) = unlike a b s n ∙ sym (unlike b a s (λ e. n (sym e)))

pub apart_back : (a b : List ℕ) → apart a b ≡ apart b a
apart_back a b = apart_ones a b ∙ total_stretch (one a b) (one b a) configured (λ k h. ap (λ (t : Bool). first t 1 0) (turned a b k)) ∙ sym (apart_ones b a)

-- ---- by way of a third

-- a sum of nothing has no part
no_part : (f : ℕ → ℕ) (n from : ℕ) → total f (slots_from from n) ≡ 0 → (k : ℕ) → from ≤ k → k < from + n → f k ≡ 0
unfolding slots_from total
no_part f zero from e k l h = absurd (omega arith)
no_part f (suc n) from e k l h = by (ℕ_discrete k from) (λ m. no_part f n (suc from) (omega arith) k m (omega arith))
  where
    by : Dec (k ≡ from) → (suc from ≤ k → f k ≡ 0) → f k ≡ 0
    by (yes q) more = omega (arith, ap f q)
    by (no q) more = more (omega (arith, q))

module _ (a b c : List ℕ) where
  abbrev Between : ℕ → Type 0
  Between k = (get_or b k 0 ≡ get_or a k 0) ⊎ (get_or b k 0 ≡ get_or c k 0)

  paid : (s : ℕ) → one a b s + one b c s ≡ one a c s + detour a b c s
  unfolding detour first
  paid s = by (ℕ_discrete (get_or a s 0) (get_or b s 0)) (ℕ_discrete (get_or b s 0) (get_or c s 0)) (ℕ_discrete (get_or a s 0) (get_or c s 0))
    where
      by : Dec (get_or a s 0 ≡ get_or b s 0) → Dec (get_or b s 0 ≡ get_or c s 0) → Dec (get_or a s 0 ≡ get_or c s 0) → one a b s + one b c s ≡ one a c s + detour a b c s
      by (yes p) (yes q) r = rw (like a b s p, like b c s q, like a c s (p ∙ q))
      by (yes p) (no q) r = rw (like a b s p, unlike b c s q, unlike a c s (λ e. q (sym p ∙ e)))
      by (no p) (yes q) r = rw (unlike a b s p, like b c s q, unlike a c s (λ e. p (e ∙ sym q)))
      by (no p) (no q) (yes r) = rw (unlike a b s p, unlike b c s q, like a c s r)
      by (no p) (no q) (no r) = rw (unlike a b s p, unlike b c s q, unlike a c s r)

  pub apart_cost : apart a b + apart b c ≡ apart a c + aside a b c
  unfolding aside
  apart_cost =
      let all = stretch 0 configured in
      let sums : total (λ s. one a b s + one b c s) all ≡ total (λ s. one a c s + detour a b c s) all = ap (λ (f : ℕ → ℕ). total f all) (fun_ext paid) in
      omega (arith, apart_ones a b, apart_ones b c, apart_ones a c, total_sum (one a b) (one b c) all, total_sum (one a c) (detour a b c) all, sums)

  pub apart_by_way : apart a c ≤ apart a b + apart b c
  apart_by_way = omega (arith, apart_cost)

  -- no detour where b holds what a or c holds, and nowhere else
  straight : (s : ℕ) → Between s → detour a b c s ≡ 0
  unfolding detour first
  straight s (inl e) = rw (like a b s (sym e))
  straight s (inr e) = rw (like b c s e, and-false (differs a b s))

  twice : (s : ℕ) → differs a b s ≡ true → differs b c s ≡ true → detour a b c s ≡ 0 → ⊥
  unfolding detour first
  twice s p q = rw (p, q) (chosen (λ (n : ℕ). n ≡ 0 → ⊥) (differs a c s) 1 2 (λ t e. omega arith) (λ t e. omega arith))

  between : (s : ℕ) → detour a b c s ≡ 0 → Between s
  between s e = by (ℕ_discrete (get_or b s 0) (get_or a s 0)) (ℕ_discrete (get_or b s 0) (get_or c s 0))
    where
      by : Dec (get_or b s 0 ≡ get_or a s 0) → Dec (get_or b s 0 ≡ get_or c s 0) → Between s
      by (yes p) q = inl p
      by (no p) (yes q) = inr q
      by (no p) (no q) = absurd (twice s (unlike a b s (λ r. p (sym r))) (unlike b c s q) e)

  pub apart_exactly : (((k : ℕ) → k < configured → (get_or b k 0 ≡ get_or a k 0) ⊎ (get_or b k 0 ≡ get_or c k 0)) → apart a c ≡ apart a b + apart b c)
      × (apart a c ≡ apart a b + apart b c → (k : ℕ) → k < configured → (get_or b k 0 ≡ get_or a k 0) ⊎ (get_or b k 0 ≡ get_or c k 0))
  unfolding aside stretch
  apart_exactly = (
    λ all. omega (arith, apart_cost, total_stretch (detour a b c) (λ s. 0) configured (λ k h. straight k (all k h)), total_none (stretch 0 configured)),
    λ e k h. between k (no_part (detour a b c) (configured - 0) 0 (omega (arith, e, apart_cost)) k (omega arith) (omega arith)),
  )
