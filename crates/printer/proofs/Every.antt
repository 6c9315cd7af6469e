-- What tests tell: of two, of every element, and of the answer that was chosen by one.
-- Assumes nothing.
use mathlib.Core.Bool.{Bool, true, false, ◌&&◌}
use mathlib.Core.List.{List, [], ◌∷◌, ◌++◌}
use mathlib.Core.Path.{◌≡◌, refl, sym}
use Rattle.std.specs.Prelude.{Some, None}
use Rattle.std.proofs.lemmas.Option.{none-some}
use Rattle.numbers.specs.Choice.{first, every}

pub both : (a b : Bool) → (a && b) ≡ true → (a ≡ true) × (b ≡ true)
both true b e = (refl, e)
both false b e = (cc, cc)

module _ {A : Type 0} (p : A → Bool) where
  pub every_append : (xs ys : List A) → every p xs ≡ true → every p ys ≡ true → every p (xs ++ ys) ≡ true
  unfolding every
  every_append [] ys e f = f
  every_append (x ∷ xs) ys e f =
      let k : (p x ≡ true) × (every p xs ≡ true) = both (p x) (every p xs) e in
      rw k.0 (every_append xs ys k.1 f)

  pub every_weaker : (q : A → Bool) → ((x : A) → p x ≡ true → q x ≡ true) → (xs : List A) → every p xs ≡ true → every q xs ≡ true
  unfolding every
  every_weaker q w [] e = refl
  every_weaker q w (x ∷ xs) e =
      let k : (p x ≡ true) × (every p xs ≡ true) = both (p x) (every p xs) e in
      rw (w x k.0) (every_weaker q w xs k.1)

pub chosen : {A : Type 0} (t : Bool) (x other z : A) → (other ≡ z → ⊥) → first t x other ≡ z → (t ≡ true) × (x ≡ z)
unfolding first
chosen true x other z differ e = (refl, e)
chosen false x other z differ e = absurd (differ e)

pub passed : {A : Type 0} (t : Bool) (x other : A) → (x ≡ other → ⊥) → first t x other ≡ other → t ≡ false
unfolding first
passed true x other differ e = absurd (differ e)
passed false x other differ e = refl

pub some_none : {A : Type 0} (x : A) → Some x ≡ None → ⊥
some_none x e = none-some x (sym e)
