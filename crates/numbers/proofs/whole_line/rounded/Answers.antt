-- Rounding, counted from -32768: the two branches are the two laws of Rounding.
-- Assumes nothing.
use Prim.Native.Nat.{◌*◌}
use native.Mathlib.Omega.{arith}
use Rattle.numbers.proofs.Differences.{lowered, counts}
use Rattle.numbers.proofs.whole_line.Rounding.{from_zero, below_zero, stays}
use Rattle.numbers.proofs.whole_line.rounded.Goals as goal

pub returns-then-n-d : goal.returns-then-n-d
returns-then-n-d c =
    let n = c.args.n in
    let d = c.args.d in (
      counts (below_zero d c.requires.0 (lowered n (32768 * d)) c.if-n-d.true),
      stays d c.requires.0 c.requires.2 (omega arith),
    )

pub returns : goal.returns
returns c =
    let n = c.args.n in
    let d = c.args.d in (
      counts (from_zero d c.requires.0 (lowered n (32768 * d)) c.if-n-d.false),
      stays d c.requires.0 c.requires.2 (omega arith),
    )
