-- A rule over a range of numbers, proved by one list that the check computes, and handed on at each number.
-- Assumes nothing.
use mathlib.Core.Path.{◌≡◌, sym, ap, ◌∙◌}
use mathlib.Core.List.{List, [], ◌∷◌}
use Prim.Native.Nat.{ℕ, zero, suc, ◌+◌, ◌<◌}
use native.Mathlib.Nat.{add-zero, zero-add, add-suc, suc-add, le_of_suc-le-suc, not-suc-le-zero}
use lib.ListN.{get_or}

-- f at i, i + 1, .., n of them
unfoldable pub tabulate : {A : Type 0} → ℕ → ℕ → (ℕ → A) → List A
tabulate zero i f = []
tabulate (suc n) i f = f i ∷ tabulate n (suc i) f

module _ {A : Type 0} where
  pub tabulated : (n i : ℕ) (f : ℕ → A) (d : A) (k : ℕ) → k < n → get_or (tabulate n i f) k d ≡ f (i + k)
  unfolding tabulate
  tabulated zero i f d k h = absurd (not-suc-le-zero h)
  tabulated (suc n) i f d zero h = ap f (sym (add-zero i))
  tabulated (suc n) i f d (suc k) h = tabulated n (suc i) f d k (le_of_suc-le-suc h) ∙ ap f (suc-add i k ∙ sym (add-suc i k))

  -- two rules with one list agree
  pub agree : (n : ℕ) (f g : ℕ → A) (d : A) → tabulate n 0 f ≡ tabulate n 0 g → (k : ℕ) → k < n → f k ≡ g k
  agree n f g d e k h =
      ap f (sym (zero-add k)) ∙ sym (tabulated n 0 f d k h) ∙ ap (λ (l : List A). get_or l k d) e ∙ tabulated n 0 g d k h ∙ ap g (zero-add k)

  -- a list that is a rule's list has the rule's value at each place
  pub listed : (n : ℕ) (f : ℕ → A) (l : List A) (d : A) → tabulate n 0 f ≡ l → (k : ℕ) → k < n → get_or l k d ≡ f k
  listed n f l d e k h = ap (λ (m : List A). get_or m k d) (sym e) ∙ tabulated n 0 f d k h ∙ ap f (zero-add k)
