-- What a branch tells, turned into the tests that a first-match definition chooses by: `search tests` under `unfolding DEF first`
-- closes the returns of a function that goes by such a definition. Unsigned tests are the logic's own laws.
-- A signed number stands in the code as its bits, so its branch tells of `to_z w (of_z w a)`: the laws here say what that is of a.
-- The set has them for INTEGER16; at another width list them beside it, as `search (tests, lt_yes w32, lt_no w32)`.
-- Assumes nothing.
use Prim.Native.Nat.{ℕ}
use mathlib.Core.Bool.{Bool, true, false, not}
use mathlib.Core.Path.{◌≡◌, ap, sym, ◌∙◌}
use native.Mathlib.Omega.{arith}
use borrow.Author.Tests.{lt-ltb, le-ltb, lt-leb, le-leb, eq-eqb, ne_eqb, leb-true, leb-false}
use borrow.Author.Rules.{sfits_of}
use lib.Dec.{ltb, leb, lit<}
use lib.IntN.{ℤ, pos, negsuc}
use lib.Signed.{lt_z, le_z}
use lib.Ieee.{Float, lt, le, eq, ne}
use mir.Syntax.{Width, w16}
use mir.Val.{SFits, to_z, of_z}
use mir.Facts.{to_z-of_z}
use Rattle.numbers.specs.Order.{below}

-- ---- `below`, from either test of ℤ
pub lt_below : (a b : ℤ) (t : Bool) → lt_z a b ≡ t → below a b ≡ t
unfolding below
lt_below a b t e = e

turned : (a b : ℕ) (t : Bool) → leb a b ≡ t → ltb b a ≡ not t
turned a b true e = le-ltb b a (leb-true a b e)
turned a b false e = lt-ltb b a (leb-false a b e)

pub le_below : (a b : ℤ) (t : Bool) → le_z a b ≡ t → below b a ≡ not t
unfolding below
le_below (pos a) (pos b) t e = turned a b t e
le_below (pos a) (negsuc b) t e = ap not e
le_below (negsuc a) (pos b) t e = ap not e
le_below (negsuc a) (negsuc b) t e = turned b a t e

-- ---- a branch on two signed numbers of width w; a constant is its own bits read back, and fits by computing
module _ (w : Width) (a b : ℤ) where
  pub lt_yes : SFits w a → SFits w b → lt_z (to_z w (of_z w a)) (to_z w (of_z w b)) ≡ true → below a b ≡ true
  lt_yes f g e = lt_below a b true (simp (to_z-of_z f, to_z-of_z g) at e)

  pub lt_no : SFits w a → SFits w b → lt_z (to_z w (of_z w a)) (to_z w (of_z w b)) ≡ false → below a b ≡ false
  lt_no f g e = lt_below a b false (simp (to_z-of_z f, to_z-of_z g) at e)

  pub le_yes : SFits w a → SFits w b → le_z (to_z w (of_z w a)) (to_z w (of_z w b)) ≡ true → below b a ≡ false
  le_yes f g e = le_below a b true (simp (to_z-of_z f, to_z-of_z g) at e)

  pub le_no : SFits w a → SFits w b → le_z (to_z w (of_z w a)) (to_z w (of_z w b)) ≡ false → below b a ≡ true
  le_no f g e = le_below a b false (simp (to_z-of_z f, to_z-of_z g) at e)

-- ---- the same for INTEGER16, by the names that the set can hold
module _ (a b : ℤ) where
  pub lt_yes16 : SFits w16 a → SFits w16 b → lt_z (to_z w16 (of_z w16 a)) (to_z w16 (of_z w16 b)) ≡ true → below a b ≡ true
  lt_yes16 = lt_yes w16 a b

  pub lt_no16 : SFits w16 a → SFits w16 b → lt_z (to_z w16 (of_z w16 a)) (to_z w16 (of_z w16 b)) ≡ false → below a b ≡ false
  lt_no16 = lt_no w16 a b

  pub le_yes16 : SFits w16 a → SFits w16 b → le_z (to_z w16 (of_z w16 a)) (to_z w16 (of_z w16 b)) ≡ true → below b a ≡ false
  le_yes16 = le_yes w16 a b

  pub le_no16 : SFits w16 a → SFits w16 b → le_z (to_z w16 (of_z w16 a)) (to_z w16 (of_z w16 b)) ≡ false → below b a ≡ true
  le_no16 = le_no w16 a b

-- ---- `==` of signed numbers tells that their bits are the same
pub bits_same : {w : Width} (a b : ℤ) → SFits w a → SFits w b → of_z w a ≡ of_z w b → a ≡ b
bits_same {w} a b f g e = sym (to_z-of_z f) ∙ ap (to_z w) e ∙ to_z-of_z g

-- ---- REAL32: the branch's own words, as laws to rewrite with
module _ (a b : Float) where
  pub real_lt_yes : lt a b ≡ true → lt a b ≡ true
  real_lt_yes e = e

  pub real_lt_no : lt a b ≡ false → lt a b ≡ false
  real_lt_no e = e

  pub real_le_yes : le a b ≡ true → le a b ≡ true
  real_le_yes e = e

  pub real_le_no : le a b ≡ false → le a b ≡ false
  real_le_no e = e

  pub real_eq_yes : eq a b ≡ true → eq a b ≡ true
  real_eq_yes e = e

  pub real_eq_no : eq a b ≡ false → eq a b ≡ false
  real_eq_no e = e

  pub real_ne_yes : ne a b ≡ true → ne a b ≡ true
  real_ne_yes e = e

  pub real_ne_no : ne a b ≡ false → ne a b ≡ false
  real_ne_no e = e

pub ruleset tests = (tt, lit<, lt-ltb, le-ltb, lt-leb, le-leb, eq-eqb, ne_eqb, to_z-of_z, sfits_of, lt_yes16, lt_no16, le_yes16, le_no16, real_lt_yes, real_lt_no, real_le_yes, real_le_no, real_eq_yes, real_eq_no, real_ne_yes, real_ne_no, arith)
