-- Each part by the slot of its name.
-- Assumes nothing.
use mathlib.Core.Path.{refl}
use native.Mathlib.Omega.{arith}
use Rattle.numbers.proofs.ExactLaws.{back}
use Rattle.unit.proofs.Slots.{have, math_array}
use Rattle.unit.specs.Entry.{whole, byte}
use Rattle.math.specs.Maths.{operand}
use Rattle.math.proofs.turns.operand.Goals as goal

pub returns : goal.returns
unfolding operand whole byte have
returns c =
    let k = c.args.math.k in
    let i = c.args.i in
    rw (
      math_array 0x4000 refl k c.args.math.is_one i (omega arith),
      math_array 0x4001 refl k c.args.math.is_one i (omega arith),
      math_array 0x4020 refl k c.args.math.is_one i (omega arith),
      math_array 0x4022 refl k c.args.math.is_one i (omega arith),
      math_array 0x4040 refl k c.args.math.is_one i (omega arith),
      c.as_real.ensures,
      c.look_up.ensures,
      c.pair_at.ensures,
      back c.whole_at.type_inv c.whole_at.ensures,
      back c.whole_at-2.type_inv c.whole_at-2.ensures,
      back c.whole_at-3.type_inv c.whole_at-3.ensures,
    )
