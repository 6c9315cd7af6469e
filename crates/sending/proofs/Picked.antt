-- Laws of picking slots by a test.
-- Assumes nothing.
use mathlib.Core.Path.{◌≡◌, refl, sym, ap, ◌∙◌}
use mathlib.Core.Bool.{Bool, true, false}
use mathlib.Core.List.{List, [], ◌∷◌, ◌++◌, reverse, reverse-cons, append-nil}
use Prim.Native.Nat.{ℕ}
use Rattle.numbers.specs.Choice.{first}
use Rattle.sending.specs.Sending.{picked}

module _ (test : ℕ → Bool) where
  pub picked_append : (xs ys : List ℕ) → picked test (xs ++ ys) ≡ picked test xs ++ picked test ys
  unfolding picked first
  picked_append [] ys = refl
  picked_append (x ∷ xs) ys = go (test x) (picked_append xs ys)
    where
      go : (t : Bool) → picked test (xs ++ ys) ≡ picked test xs ++ picked test ys
          → first t (x ∷ picked test (xs ++ ys)) (picked test (xs ++ ys)) ≡ first t (x ∷ picked test xs) (picked test xs) ++ picked test ys
      go true e = ap (λ (l : List ℕ). x ∷ l) e
      go false e = e

  pub picked_reverse : (xs : List ℕ) → reverse (picked test xs) ≡ picked test (reverse xs)
  unfolding picked first
  picked_reverse [] = refl
  picked_reverse (x ∷ xs) =
      go (test x) (picked_reverse xs) ∙ sym (picked_append (reverse xs) (x ∷ [])) ∙ ap (picked test) (sym (reverse-cons x xs))
    where
      go : (t : Bool) → reverse (picked test xs) ≡ picked test (reverse xs)
          → reverse (first t (x ∷ picked test xs) (picked test xs)) ≡ picked test (reverse xs) ++ first t (x ∷ []) []
      go true e = reverse-cons x (picked test xs) ∙ ap (λ (l : List ℕ). l ++ (x ∷ [])) e
      go false e = e ∙ sym (append-nil (picked test (reverse xs)))
