-- What the machine finds of two whole numbers by their bits is what their order says.
-- Assumes nothing.
use Prim.Native.Nat.{ℕ}
use mathlib.Core.Bool.{Bool, true, false, not, ◌&&◌, ◌||◌}
use mathlib.Core.Path.{◌≡◌, refl, sym, ap, ◌∙◌}
use native.Mathlib.Omega.{arith}
use borrow.Author.Tests.{ltb-false, ne_eqb, eq-eqb, le-ltb}
use lib.Dec.{eqb}
use lib.IntN.{ℤ, pos, negsuc}
use lib.Signed.{lt_z, le_z}
use mir.Syntax.{Width}
use mir.Val.{SFits, to_z, of_z}
use mir.Facts.{to_z-of_z}
use Rattle.numbers.specs.Order.{below}
use Rattle.numbers.proofs.Tests.{bits_same, le_below}

below_itself : (a : ℤ) → below a a ≡ false
unfolding below
below_itself (pos n) = le-ltb n n (omega arith)
below_itself (negsuc n) = le-ltb n n (omega arith)

neither_below : (a b : ℤ) → below a b ≡ false → below b a ≡ false → a ≡ b
unfolding below
neither_below (pos m) (pos n) e f = ap pos (omega (arith, ltb-false m n e, ltb-false n m f))
neither_below (pos m) (negsuc n) e f = cc
neither_below (negsuc m) (pos n) e f = cc
neither_below (negsuc m) (negsuc n) e f = ap negsuc (omega (arith, ltb-false n m e, ltb-false m n f))

unequal : (a b : ℤ) → below a b ≡ true → a ≡ b → ⊥
unequal a b e same = let h : true ≡ false = sym e ∙ ap (below a) (sym same) ∙ below_itself a in let z : ◌≡◌ {A = ℕ} 0 1 = cc in omega arith

module _ {w : Width} (a b : ℤ) (f : SFits w a) (g : SFits w b) where
  pub same_bits : eqb (of_z w a) (of_z w b) ≡ (not (below a b) && not (below b a))
  same_bits = by (below a b) (below b a) refl refl where
    by : (l r : Bool) → below a b ≡ l → below b a ≡ r → eqb (of_z w a) (of_z w b) ≡ (not l && not r)
    by true r e h = ne_eqb _ _ (λ q. unequal a b e (bits_same a b f g q))
    by false true e h = ne_eqb _ _ (λ q. unequal b a h (sym (bits_same a b f g q)))
    by false false e h = eq-eqb _ _ (ap (of_z w) (neither_below a b e h))

  pub other_bits : not (eqb (of_z w a) (of_z w b)) ≡ (below a b || below b a)
  other_bits = ap not same_bits ∙ by (below a b) (below b a) where
    by : (l r : Bool) → not (not l && not r) ≡ (l || r)
    by true r = refl
    by false true = refl
    by false false = refl

  -- the machine's orders of two numbers are those of the numbers
  pub lt_bits : lt_z (to_z w (of_z w a)) (to_z w (of_z w b)) ≡ below a b
  unfolding below
  lt_bits = rw (to_z-of_z f, to_z-of_z g)

  pub le_bits : le_z (to_z w (of_z w a)) (to_z w (of_z w b)) ≡ not (below b a)
  le_bits = rw (to_z-of_z f, to_z-of_z g, le_below a b (le_z a b) refl) (twice (le_z a b)) where
    twice : (t : Bool) → t ≡ not (not t)
    twice true = refl
    twice false = refl
