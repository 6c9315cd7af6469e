-- The inputs before i have joined: the running result is theirs.
-- Assumes nothing.
use Prim.Native.Nat.{◌-◌}
use mathlib.Core.Path.{◌≡◌, refl}
use native.Mathlib.Omega.{arith}
use Rattle.math.proofs.MathLaws.{taken}
use Rattle.unit.proofs.Slots.{have, math_sub}
use Rattle.unit.specs.Entry.{byte}
use Rattle.math.specs.Maths.{operator, joined_to}
use Rattle.math.proofs.turns.Folds.{joined_more}
use Rattle.math.proofs.turns.combine.Goals as goal

pub loop-i-init : goal.loop-i-init
unfolding joined_to
loop-i-init c = (omega arith, omega arith, refl)

pub loop-i-preserved : goal.loop-i-preserved
unfolding operator byte have
loop-i-preserved c =
    let before = c.loop-i in
    let i = before.i in
    let k = c.args.math.k in (
      omega arith,
      omega arith,
      rw (
        c.join-fold.ensures,
        taken,
        c.operand.ensures,
        c.byte_at-operator.ensures,
        before.invariant.2,
        joined_more _ _ _ i (omega arith),
        math_sub 0x4050 refl k c.args.math.is_one i (omega arith) (omega arith),
      ),
    )

pub returns : goal.returns
returns c =
    let loop = c.loop-i in
    let all : loop.i - 1 ≡ 3 = omega arith in
    rw (c.finish.ensures, c.ends.ensures, loop.invariant.2, all, c.start-fold.ensures, taken)
