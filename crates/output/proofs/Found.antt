-- What the machine's own words find of two numbers of 16 bits: the larger, the smaller, and whether they are the same.
-- Assumes nothing.
use Prim.Native.Nat.{ℕ, ◌<◌, ◌^◌}
use mathlib.Core.Bool.{Bool, true, false, cond, beq}
use mathlib.Core.Path.{◌≡◌, refl, sym, ◌∙◌}
use borrow.Author.Tests.{eq-eqb, ne_eqb}
use lib.Dec.{eqb}
use lib.IntN.{ℤ}
use lib.Signed.{mag, lt_z}
use mir.Syntax.{w16}
use mir.Val.{SFits, to_z, of_z}
use mir.Facts.{to_z-of_z}
use Rattle.std.specs.Int.{int_max, int_min}
use Rattle.numbers.specs.Choice.{first}
use Rattle.numbers.specs.Order.{below}
use Rattle.numbers.proofs.Same.{same_bits}
use Rattle.output.specs.Output.{higher, lower, equal, alike}

by_test : {A : Type 0} (t : Bool) (x y : A) → cond t x y ≡ first t x y
unfolding first
by_test true x y = refl
by_test false x y = refl

pub higher_is : (a b : ℤ) → int_max b a ≡ higher a b
unfolding higher below
higher_is a b = by_test (lt_z a b) b a

pub lower_is : (a b : ℤ) → int_min b a ≡ lower a b
unfolding lower below
lower_is a b = by_test (lt_z a b) a b

module _ (x y : ℤ) {a b : ℤ} (fx : mag x < 2 ^ 15) (fy : mag y < 2 ^ 15) (p : to_z w16 (of_z w16 x) ≡ a) (q : to_z w16 (of_z w16 y) ≡ b) where
  pub equal_is : eqb (of_z w16 x) (of_z w16 y) ≡ equal a b
  unfolding equal
  equal_is =
      let f : SFits w16 x = record { sfits = fx } in
      let g : SFits w16 y = record { sfits = fy } in
      rw (← p, ← q, to_z-of_z f, to_z-of_z g) (same_bits x y f g)

  pub found_equal : of_z w16 x ≡ of_z w16 y → equal a b ≡ true
  found_equal e = sym equal_is ∙ eq-eqb _ _ e

  pub found_other : (of_z w16 x ≡ of_z w16 y → ⊥) → equal a b ≡ false
  found_other n = sym equal_is ∙ ne_eqb _ _ n

pub alike_is : (a b : Bool) → beq a b ≡ alike a b
unfolding alike first
alike_is true true = refl
alike_is true false = refl
alike_is false true = refl
alike_is false false = refl
