-- The pattern of an INTEGER16 is its bits.
-- Assumes nothing.
use mathlib.Core.Path.{◌≡◌, refl, ap, ◌∙◌}
use native.Mathlib.Omega.{arith}
use lib.IntN.{ℤ, pos, negsuc}
use mir.Syntax.{w16}
use mir.Val.{of_z}
use mir.Facts.{to_z-of_z}
use Rattle.numbers.specs.Signed.{pattern16}
use Rattle.numbers.proofs.signed.pattern.Goals as goal

bits : (v : ℤ) → of_z w16 v ≡ pattern16 v
unfolding pattern16
bits (pos n) = refl
bits (negsuc n) = omega arith

pub returns : goal.returns
returns c = c.from.ensures ∙ c.cast_unsigned.ensures ∙ ap (of_z w16) (to_z-of_z c.ranges.v) ∙ bits c.args.v
