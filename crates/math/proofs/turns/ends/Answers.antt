-- Each end by the slot of its name.
-- Assumes nothing.
use mathlib.Core.Path.{refl}
use native.Mathlib.Omega.{arith}
use Rattle.numbers.proofs.ExactLaws.{back}
use Rattle.unit.proofs.Slots.{has, array}
use Rattle.unit.specs.Entry.{whole}
use Rattle.math.specs.Maths.{ends}
use Rattle.math.proofs.turns.ends.Goals as goal

pub returns : goal.returns
unfolding ends whole has
returns c =
    let k = c.args.math.k in
    rw (
      array 0x4521 refl k c.args.math.is_one,
      array 0x4523 refl k c.args.math.is_one,
      back c.whole.type_inv c.whole.ensures,
      back c.whole-2.type_inv c.whole-2.ensures,
    )
