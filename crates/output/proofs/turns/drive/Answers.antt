-- Rules 1 and 2 by the enable alone.
-- Assumes nothing.
use Prim.Native.Nat.{◌+◌, ◌<◌}
use mathlib.Core.Path.{refl, ap, ◌∙◌}
use native.Mathlib.Omega.{arith}
use Rattle.numbers.proofs.ExactLaws.{back}
use Rattle.numbers.specs.Choice.{first}
use Rattle.unit.proofs.Slots.{has}
use Rattle.unit.proofs.WordLaws.{byte_is, looked_up}
use Rattle.output.specs.Output.{rests}
use Rattle.output.proofs.turns.RuleLaws.{by_enable}
use Rattle.output.proofs.turns.drive.Goals as goal

pub returns-then-turned_off : goal.returns-then-turned_off
unfolding first has
returns-then-turned_off c =
    let u = c.args.output.unit.now in
    let k = c.args.output.k in
    let h : k < 4 = c.args.output.is_one in
    rw (
      by_enable u (k + 1),
      ← looked_up 0x2350 0x2351 u k h c.pair.ensures c.look_up-enable.ensures refl refl,
      ← byte_is 0x2352 u k h c.byte.ensures refl,
      ← c.turned_off.ensures,
      c.if-turned_off.true,
    ) c.rest.ensures

pub returns-then-failed : goal.returns-then-failed
unfolding first has
returns-then-failed c =
    let u = c.args.output.unit.now in
    let k = c.args.output.k in
    let h : k < 4 = c.args.output.is_one in
    rw (
      by_enable u (k + 1),
      ← looked_up 0x2350 0x2351 u k h c.pair.ensures c.look_up-enable.ensures refl refl,
      ← byte_is 0x2352 u k h c.byte.ensures refl,
      ← c.turned_off.ensures,
      c.if-turned_off.false,
      ← c.failed.ensures,
      c.if-failed.true,
    ) (c.rest-then-failed.ensures ∙ ap rests (back c.fault.type_inv c.fault.ensures))

pub returns : goal.returns
unfolding first has
returns c =
    let u = c.args.output.unit.now in
    let k = c.args.output.k in
    let h : k < 4 = c.args.output.is_one in
    rw (
      by_enable u (k + 1),
      ← looked_up 0x2350 0x2351 u k h c.pair.ensures c.look_up-enable.ensures refl refl,
      ← byte_is 0x2352 u k h c.byte.ensures refl,
      ← c.turned_off.ensures,
      c.if-turned_off.false,
      ← c.failed.ensures,
      c.if-failed.false,
    ) c.override_or_control.ensures
