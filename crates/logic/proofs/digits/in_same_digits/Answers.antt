-- The two products, in the order that is asked.
-- Assumes nothing.
use mathlib.Core.Path.{ap, ◌∙◌}
use borrow.Author.Rules.{sfits_of}
use lib.IntN.{ℤ, pos, ◌*ℤ◌}
use mir.Syntax.{w32}
use mir.Facts.{to_z-of_z}
use Rattle.logic.specs.Digits.{tens, in_same_digits}
use Rattle.logic.proofs.digits.in_same_digits.Goals as goal

pub returns : goal.returns
unfolding in_same_digits
returns c =
    let left = to_z-of_z {w = w32} (sfits_of c.scaled.type_inv) ∙ c.scaled.ensures ∙ ap (λ (z : ℤ). z *ℤ pos (tens c.args.e)) (to_z-of_z c.ranges.v) in
    let right = to_z-of_z {w = w32} (sfits_of c.scaled-2.type_inv) ∙ c.scaled-2.ensures ∙ ap (λ (z : ℤ). z *ℤ pos (tens c.args.d)) (to_z-of_z c.ranges.w) in
    c.order.ensures ∙ rw (left, right)
