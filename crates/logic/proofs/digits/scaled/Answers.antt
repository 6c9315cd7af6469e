-- The product fits 32 bits.
-- Assumes nothing.
use lib.IntN.{ℤ, ◌*ℤ◌}
use mathlib.Core.Path.{◌∙◌}
use mir.Facts.{sfits_widen, to_z-of_z}
use Rattle.numbers.proofs.ExactLaws.{asked, given}
use Rattle.logic.proofs.digits.DigitLaws.{tens_fits, product_fits}
use Rattle.logic.proofs.digits.scaled.Goals as goal

pub overflow_mul-result : goal.overflow_mul-result
overflow_mul-result c =
    let v = c.ranges.v in
    asked (λ (m n : ℤ). m *ℤ n) (c.from.ensures ∙ to_z-of_z v) c.tens.ensures (sfits_widen tt v) (tens_fits _) (product_fits _ v _)

pub returns : goal.returns
returns c =
    let v = c.ranges.v in
    given (λ (m n : ℤ). m *ℤ n) (c.from.ensures ∙ to_z-of_z v) c.tens.ensures (sfits_widen tt v) (tens_fits _) (product_fits _ v _)
