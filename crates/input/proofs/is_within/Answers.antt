-- Neither end is passed.
-- Assumes nothing.
use mathlib.Core.Bool.{Bool, true, false, not}
use mathlib.Core.Path.{◌≡◌, refl, sym, ◌∙◌}
use lib.IntN.{ℤ}
use Rattle.numbers.specs.Choice.{first}
use Rattle.numbers.specs.Order.{below}
use Rattle.numbers.proofs.Same.{le_bits}
use Rattle.input.specs.Input.{within}
use Rattle.input.proofs.is_within.Goals as goal

above_low : (low v high : ℤ) → not (below v low) ≡ true → not (below high v) ≡ within low v high
unfolding within first
above_low low v high = by (below v low) (below high v) where
  by : (under over : Bool) → not under ≡ true → not over ≡ first under false (first over false true)
  by true over e = cc
  by false true e = refl
  by false false e = refl

below_low : (low v high : ℤ) → not (below v low) ≡ false → false ≡ within low v high
unfolding within first
below_low low v high = by (below v low) where
  by : (under : Bool) → not under ≡ false → false ≡ first under false (first (below high v) false true)
  by true e = refl
  by false e = cc

pub returns-then-low-v : goal.returns-then-low-v
returns-then-low-v c = let a = c.args in let r = c.ranges in
    le_bits a.v a.high r.v r.high ∙ above_low a.low a.v a.high (sym (le_bits a.low a.v r.low r.v) ∙ c.if-low-v.true)

pub returns-else-low-v : goal.returns-else-low-v
returns-else-low-v c = let a = c.args in let r = c.ranges in
    c.if-low-v.false ∙ below_low a.low a.v a.high (sym (le_bits a.low a.v r.low r.v) ∙ c.if-low-v.false)
