-- `digits::order`: each arm by the comparison numbers that are ruled out before it (`Same`).
-- Assumes nothing.
use mathlib.Core.Path.{◌∙◌}
use Rattle.numbers.proofs.Tests.{tests}
use Rattle.numbers.specs.Choice.{first}
use Rattle.numbers.proofs.Same.{same_bits, other_bits, lt_bits, le_bits}
use Rattle.logic.specs.Digits.{orders}
use Rattle.logic.proofs.digits.order.Goals as goal

pub returns-in-0 : goal.returns-in-0
unfolding orders first
returns-in-0 c = same_bits _ _ c.ranges.x c.ranges.y ∙ search tests

pub returns-in-1 : goal.returns-in-1
unfolding orders first
returns-in-1 c = other_bits _ _ c.ranges.x c.ranges.y ∙ search tests

pub returns-in-2 : goal.returns-in-2
unfolding orders first
returns-in-2 c = lt_bits _ _ c.ranges.y c.ranges.x ∙ search tests

pub returns-in-3 : goal.returns-in-3
unfolding orders first
returns-in-3 c = le_bits _ _ c.ranges.y c.ranges.x ∙ search tests

pub returns-in-4 : goal.returns-in-4
unfolding orders first
returns-in-4 c = lt_bits _ _ c.ranges.x c.ranges.y ∙ search tests

pub returns-in_default : goal.returns-in_default
unfolding orders first
returns-in_default c = le_bits _ _ c.ranges.x c.ranges.y ∙ search tests
