-- A rule and a list compared at those numbers that a test chooses: one pass over each, computed, and handed on at each number.
-- Assumes nothing.
use mathlib.Core.Path.{◌≡◌, refl, sym, ap, ◌∙◌}
use mathlib.Core.Bool.{Bool, true, false, true≢false}
use mathlib.Core.List.{List, [], ◌∷◌}
use Prim.Native.Nat.{ℕ, zero, suc, ◌+◌, ◌-◌, ◌<◌, ◌≤◌, suc-le-suc}
use native.Mathlib.Decide.{dec_lt}
use native.Mathlib.Omega.{arith}
use lib.ListN.{get_or, take, drop}
use lib.Seq.{get_or-drop}
use Rattle.numbers.specs.Choice.{first}
use Rattle.dictionary.proofs.Tabulate.{tabulate, tabulated}

pub le_lt : {x k : ℕ} → x ≤ k → x < suc k
le_lt h = suc-le-suc h

-- two rules with one list over the numbers from low to high agree there
pub agree_on : {A : Type 0} (f g : ℕ → A) (low high x : ℕ) (d : A) → tabulate (high - low) low f ≡ tabulate (high - low) low g → low ≤ x → x < high → f x ≡ g x
agree_on {A} f g low high x d e l h =
    let s : low + (x - low) ≡ x = omega arith in
    ap f (sym s) ∙ sym (tabulated (high - low) low f d (x - low) (omega arith)) ∙ ap (λ (t : List A). get_or t (x - low) d) e
    ∙ tabulated (high - low) low g d (x - low) (omega arith) ∙ ap g s

-- a rule at those numbers from i on, n of them, that a test chooses
unfoldable pub sieve : {B : Type 0} → (ℕ → Bool) → ℕ → ℕ → (ℕ → B) → List B
sieve p zero i f = []
sieve p (suc n) i f = first (p i) (f i ∷ sieve p n (suc i) f) (sieve p n (suc i) f)

-- a rule at those elements of a list, numbered from i on, whose number a test chooses
unfoldable pub sift : {A B : Type 0} → (ℕ → Bool) → (ℕ → A → B) → ℕ → List A → List B
sift p g i [] = []
sift p g i (x ∷ xs) = first (p i) (g i x ∷ sift p g (suc i) xs) (sift p g (suc i) xs)

rest_of : {B : Type 0} → List B → List B
rest_of [] = []
rest_of (x ∷ xs) = xs

module _ {A B : Type 0} (p : ℕ → Bool) (f : ℕ → B) (g : ℕ → A → B) (d : A) (x : ℕ) (t : p x ≡ true) where
  -- a number that the test chooses leaves something
  some : (n i : ℕ) → sieve p n i f ≡ [] → i ≤ x → x < i + n → ⊥
  unfolding sieve first
  some zero i e low high = omega arith
  some (suc n) i e low high = go (some n (suc i)) (dec_lt i x) (p i) refl e
    where
      go : (sieve p n (suc i) f ≡ [] → suc i ≤ x → x < suc i + n → ⊥) → Dec (i < x) → (b : Bool) → p i ≡ b → first b (f i ∷ sieve p n (suc i) f) (sieve p n (suc i) f) ≡ [] → ⊥
      go ih m true q r = let z : ◌≡◌ {A = ℕ} 0 1 = cc in omega arith
      go ih (yes m) false q r = ih r m (omega arith)
      go ih (no n) false q r = true≢false (sym t ∙ ap p (omega arith) ∙ q)

  alike : (n i : ℕ) (l : List A) → sieve p n i f ≡ sift p g i (take n l) → i ≤ x → x < i + n → f x ≡ g x (get_or l (x - i) d)
  unfolding sieve sift first rest_of
  alike zero i l e low high = absurd (omega arith)
  alike (suc n) i [] e low high = absurd (some (suc n) i e low high)
  alike (suc n) i (y ∷ ys) e low high = go (alike n (suc i) ys) (dec_lt i x) (p i) refl e
    where
      later : suc i ≤ x → x - i ≡ suc (x - suc i)
      later m = omega arith

      go : (sieve p n (suc i) f ≡ sift p g (suc i) (take n ys) → suc i ≤ x → x < suc i + n → f x ≡ g x (get_or ys (x - suc i) d)) → Dec (i < x) → (b : Bool) → p i ≡ b
          → first b (f i ∷ sieve p n (suc i) f) (sieve p n (suc i) f) ≡ first b (g i y ∷ sift p g (suc i) (take n ys)) (sift p g (suc i) (take n ys)) → f x ≡ g x (get_or (y ∷ ys) (x - i) d)
      go ih (yes m) true q r = rw (later m) (ih (ap rest_of r) m (omega arith))
      go ih (yes m) false q r = rw (later m) (ih r m (omega arith))
      go ih (no n) true q r =
          let same : x ≡ i = omega arith in
          let none : x - i ≡ 0 = omega arith in
          rw none (ap f same ∙ ap (λ (l : List B). get_or l 0 (g i y)) r ∙ ap (λ (k : ℕ). g k y) (sym same))
      go ih (no n) false q r = absurd (true≢false (sym t ∙ ap p (omega arith) ∙ q))

pub sifted : {A B : Type 0} (p : ℕ → Bool) (f : ℕ → B) (g : ℕ → A → B) (d : A) (start stop x : ℕ) (l : List A)
    → sieve p (stop - start) start f ≡ sift p g start (take (stop - start) (drop start l)) → start ≤ x → x < stop → p x ≡ true → f x ≡ g x (get_or l x d)
sifted p f g d start stop x l e low high t =
    let s : start + (x - start) ≡ x = omega arith in
    alike p f g d x t (stop - start) start (drop start l) e low (omega arith) ∙ ap (g x) (get_or-drop start l (x - start) d ∙ ap (λ (k : ℕ). get_or l k d) s)
