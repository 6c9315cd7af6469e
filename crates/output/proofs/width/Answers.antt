-- By cases of the order of the two ends.
use mathlib.Core.Path.{refl}
use native.Mathlib.Omega.{arith}
use mir.Facts.{to_z-of_z}
use Rattle.numbers.specs.Choice.{first}
use Rattle.output.specs.Output.{span}
use Rattle.numbers.proofs.OrderLaws.{tested, below_le}
use Rattle.output.proofs.width.Goals as goal

pub returns-then-fv1-fv2 : goal.returns-then-fv1-fv2
unfolding span first
returns-then-fv1-fv2 c = rw (tested (to_z-of_z c.ranges.fv1) (to_z-of_z c.ranges.fv2) c.if-fv1-fv2.true) (rw (to_z-of_z c.ranges.fv1, to_z-of_z c.ranges.fv2) at c.abs_diff.ensures)

pub returns : goal.returns
unfolding span first
returns c = rw (tested (to_z-of_z c.ranges.fv1) (to_z-of_z c.ranges.fv2) c.if-fv1-fv2.false)
