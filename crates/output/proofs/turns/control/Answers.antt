-- Rules 5 to 7 by the control alone.
-- Assumes nothing.
use Prim.Native.Nat.{◌<◌}
use mathlib.Core.Path.{refl, ap, ◌∙◌}
use native.Mathlib.Omega.{arith}
use Rattle.numbers.proofs.ExactLaws.{back}
use Rattle.numbers.specs.Choice.{first}
use Rattle.unit.proofs.Slots.{has}
use Rattle.unit.proofs.WordLaws.{looked_up}
use Rattle.output.specs.Output.{rests}
use Rattle.output.specs.Rules.{controlled}
use Rattle.output.proofs.turns.control.Goals as goal

pub returns-then-failed : goal.returns-then-failed
unfolding controlled first has
returns-then-failed c =
    let a = c.args in
    let h : a.output.k < 4 = a.output.is_one in
    rw (← looked_up 0x2340 0x2341 a.output.unit.now a.output.k h c.pair.ensures c.look_up-signal.ensures refl refl, ← c.failed.ensures, c.if-failed.true)
    (c.rest.ensures ∙ ap rests (back c.fault.type_inv c.fault.ensures))

pub returns-then-absent : goal.returns-then-absent
unfolding controlled first has
returns-then-absent c =
    let a = c.args in
    let h : a.output.k < 4 = a.output.is_one in
    rw (
      ← looked_up 0x2340 0x2341 a.output.unit.now a.output.k h c.pair.ensures c.look_up-signal.ensures refl refl,
      ← c.failed.ensures,
      c.if-failed.false,
      ← c.absent.ensures,
      c.if-absent.true,
    ) c.rest-then-absent.ensures

pub returns : goal.returns
unfolding controlled first has
returns c =
    let a = c.args in
    let h : a.output.k < 4 = a.output.is_one in
    c.ramp.ensures
    ∙ rw (
      back c.as_whole.type_inv c.as_whole.ensures,
      ← looked_up 0x2340 0x2341 a.output.unit.now a.output.k h c.pair.ensures c.look_up-signal.ensures refl refl,
      ← c.failed.ensures,
      c.if-failed.false,
      ← c.absent.ensures,
      c.if-absent.false,
    )
