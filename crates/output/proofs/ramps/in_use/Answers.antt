-- By the direction.
-- Assumes nothing.
use Prim.Native.Nat.{◌<◌}
use mathlib.Core.Path.{refl}
use native.Mathlib.Omega.{arith}
use Rattle.numbers.specs.Choice.{first}
use Rattle.output.specs.Output.{in_use}
use Rattle.output.specs.Outputs.{settings}
use Rattle.unit.proofs.Slots.{has}
use Rattle.unit.proofs.WordLaws.{time_is}
use Rattle.output.proofs.ramps.in_use.Goals as goal

pub returns-then-rising : goal.returns-then-rising
unfolding in_use settings has first
returns-then-rising c = let a = c.args in
    let h : a.output.k < 4 = a.output.is_one in
    rw c.if-rising.true (time_is 0x2330 a.output.unit.now a.output.k h c.time.ensures refl)

pub returns : goal.returns
unfolding in_use settings has first
returns c = let a = c.args in
    let h : a.output.k < 4 = a.output.is_one in
    rw c.if-rising.false (time_is 0x2331 a.output.unit.now a.output.k h c.time-2.ensures refl)
