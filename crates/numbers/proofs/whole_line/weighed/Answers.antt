-- Both ends weighed: no product passes 65535 * 65535 (Bound).
-- Assumes nothing.
use Prim.Native.Nat.{◌+◌, ◌-◌, ◌*◌, ◌≤◌}
use native.Mathlib.Omega.{arith}
use Rattle.numbers.proofs.Bound as Bound
use Rattle.numbers.proofs.whole_line.weighed.Goals as goal
use Rattle.numbers.proofs.whole_line.weighed.Goals.{Start}

sum_at_most : (c : Start) → c.args.y1 * (c.args.d - c.args.t) + c.args.y2 * c.args.t ≤ 65535 * c.args.d
sum_at_most c = Bound.sum_at_most c.requires.0 c.requires.3 c.requires.4

pub overflow_mul-y1 : goal.overflow_mul-y1
overflow_mul-y1 c = record { fits = omega (arith, sum_at_most (goal.at.overflow_mul-y1 c).Start) }

pub overflow_mul-y2 : goal.overflow_mul-y2
overflow_mul-y2 c = record { fits = omega (arith, sum_at_most (goal.at.overflow_mul-y2 c).Start) }

pub overflow_add-y1 : goal.overflow_add-y1
overflow_add-y1 c = record { fits = omega (arith, sum_at_most (goal.at.overflow_add-y1 c).Start) }

pub rounded-requires : goal.rounded-requires
rounded-requires c = (c.requires.1, c.requires.2, sum_at_most (goal.at.rounded-requires c).Start)
