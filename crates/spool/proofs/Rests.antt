-- What a branch on what a coil was sent tells: its bits are 0 exactly where it is 0.
-- Assumes nothing.
use Prim.Native.Nat.{suc, ◌-◌}
use mathlib.Core.Bool.{true, false}
use mathlib.Core.Path.{◌≡◌, refl, sym, ◌∙◌}
use native.Mathlib.Omega.{arith}
use borrow.Author.Tests.{eq-eqb, ne_eqb}
use lib.Dec.{eqb}
use lib.IntN.{ℤ, pos, negsuc}
use mir.Syntax.{w16}
use mir.Val.{SFits, of_z}
use Rattle.spool.specs.Interlock.{rested}

bits : (v : ℤ) → SFits w16 v → rested v ≡ eqb (of_z w16 v) 0
unfolding rested
bits (pos n) f = refl
bits (negsuc n) f = sym (ne_eqb (65536 - suc n) 0 (λ e. omega (arith, f.sfits)))

module _ (v : ℤ) (f : SFits w16 v) where
  pub rests : of_z w16 v ≡ 0 → rested v ≡ true
  rests e = bits v f ∙ eq-eqb (of_z w16 v) 0 e

  pub rests_not : (of_z w16 v ≡ 0 → ⊥) → rested v ≡ false
  rests_not n = bits v f ∙ ne_eqb (of_z w16 v) 0 n
