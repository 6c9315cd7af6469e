-- Laws of totals: over joined, turned and picked lists, and over slots in a row.
-- Assumes nothing.
use mathlib.Core.Path.{◌≡◌, refl, ap, ◌∙◌}
use mathlib.Core.Bool.{Bool, true, false, ◌&&◌, and-eq-true_iff}
use mathlib.Core.List.{List, [], ◌∷◌, ◌++◌, reverse, reverse-cons}
use Prim.Native.Nat.{ℕ, zero, suc, ◌+◌, ◌-◌, ◌<◌, ◌≤◌}
use native.Mathlib.Nat.{le_of_suc-le-suc, not-suc-le-zero}
use native.Mathlib.Omega.{arith}
use lib.Dec.{eqb}
use lib.ListN.{length, get_or}
use borrow.Author.Tests.{eqb-true, ne_eqb}
use Rattle.numbers.specs.Choice.{first, every}
use Rattle.sending.specs.Sending.{slots_from, stretch, picked, total}

-- ---- over any list

pub total_length : (l : List ℕ) → length l ≡ total (λ s. 1) l
unfolding total
total_length [] = refl
total_length (s ∷ l) = omega (arith, total_length l)

pub total_none : (l : List ℕ) → total (λ s. 0) l ≡ 0
unfolding total
total_none [] = refl
total_none (s ∷ l) = omega (arith, total_none l)

pub total_least : (f g : ℕ → ℕ) → ((s : ℕ) → f s ≤ g s) → (l : List ℕ) → total f l ≤ total g l
unfolding total
total_least f g h [] = omega arith
total_least f g h (s ∷ l) = omega (arith, h s, total_least f g h l)

pub total_sum : (f g : ℕ → ℕ) (l : List ℕ) → total f l + total g l ≡ total (λ s. f s + g s) l
unfolding total
total_sum f g [] = refl
total_sum f g (s ∷ l) = omega (arith, total_sum f g l)

module _ (f : ℕ → ℕ) where
  pub total_append : (xs ys : List ℕ) → total f (xs ++ ys) ≡ total f xs + total f ys
  unfolding total
  total_append [] ys = omega arith
  total_append (x ∷ xs) ys = omega (arith, total_append xs ys)

  pub total_reverse : (xs : List ℕ) → total f (reverse xs) ≡ total f xs
  unfolding total
  total_reverse [] = refl
  total_reverse (x ∷ xs) =
      ap (total f) (reverse-cons x xs) ∙ total_append (reverse xs) (x ∷ []) ∙ (omega (arith, total_reverse xs))

  pub total_picked : (test : ℕ → Bool) (xs : List ℕ) → total f (picked test xs) ≡ total (λ s. first (test s) (f s) 0) xs
  unfolding total picked first
  total_picked test [] = refl
  total_picked test (x ∷ xs) = go (test x) (total_picked test xs)
    where
      go : (t : Bool) → total f (picked test xs) ≡ total (λ s. first (test s) (f s) 0) xs
          → total f (first t (x ∷ picked test xs) (picked test xs)) ≡ first t (f x) 0 + total (λ s. first (test s) (f s) 0) xs
      go true e = omega arith
      go false e = omega arith

-- no slot that fails a test: every slot passes
pub none_fails : (test : ℕ → Bool) (l : List ℕ) → total (λ s. first (test s) 0 1) l ≡ 0 → every test l ≡ true
unfolding total every first
none_fails test [] e = refl
none_fails test (s ∷ l) e = go (test s) (none_fails test l) e
  where
    go : (t : Bool) → (total (λ s. first (test s) 0 1) l ≡ 0 → every test l ≡ true) → first t 0 1 + total (λ s. first (test s) 0 1) l ≡ 0 → (t && every test l) ≡ true
    go true rest e = rest (omega arith)
    go false rest e = absurd (omega arith)

pub every_at : (test : ℕ → Bool) (l : List ℕ) → every test l ≡ true → (n : ℕ) → n < length l → test (get_or l n 0) ≡ true
unfolding every
every_at test [] e n h = absurd (not-suc-le-zero h)
every_at test (s ∷ l) e zero h = ((and-eq-true_iff (test s) (every test l)).0 e).0
every_at test (s ∷ l) e (suc n) h = every_at test l ((and-eq-true_iff (test s) (every test l)).0 e).1 n (le_of_suc-le-suc h)

-- ---- over slots in a row

pub total_row : (f g : ℕ → ℕ) (n from : ℕ) → ((k : ℕ) → from ≤ k → k < from + n → f k ≡ g k) → total f (slots_from from n) ≡ total g (slots_from from n)
unfolding total slots_from
total_row f g zero from h = refl
total_row f g (suc n) from h = omega (arith, h from (omega arith) (omega arith), total_row f g n (suc from) (λ k l m. h k (omega arith) (omega arith)))

pub total_stretch : (f g : ℕ → ℕ) (n : ℕ) → ((k : ℕ) → k < n → f k ≡ g k) → total f (stretch 0 n) ≡ total g (stretch 0 n)
unfolding stretch
total_stretch f g n h = total_row f g (n - 0) 0 (λ k l m. h k (omega arith))

-- one slot comes at most once
module _ (f : ℕ → ℕ) (slot : ℕ) where
  later : (n from : ℕ) → slot < from → total (λ s. first (eqb s slot) (f s) 0) (slots_from from n) ≡ 0
  unfolding first
  later n from h =
      total_row (λ s. first (eqb s slot) (f s) 0) (λ s. 0) n from (λ k l m. rw (ne_eqb k slot (λ e. omega arith))) ∙ total_none (slots_from from n)

  pub once : (n from : ℕ) → total (λ s. first (eqb s slot) (f s) 0) (slots_from from n) ≤ f slot
  unfolding total slots_from first
  once zero from = omega arith
  once (suc n) from = go (eqb from slot) refl (once n (suc from))
    where
      go : (t : Bool) → eqb from slot ≡ t → total (λ s. first (eqb s slot) (f s) 0) (slots_from (suc from) n) ≤ f slot
          → first t (f from) 0 + total (λ s. first (eqb s slot) (f s) 0) (slots_from (suc from) n) ≤ f slot
      go true e l = let q = eqb-true from slot e in omega (arith, ap f q, later n (suc from) (omega arith))
      go false e l = omega arith
