-- Rules 3 and 4 by the override alone.
-- Assumes nothing.
use Prim.Native.Nat.{◌<◌}
use mathlib.Core.Path.{refl, ap, ◌∙◌}
use native.Mathlib.Omega.{arith}
use Rattle.numbers.proofs.ExactLaws.{back}
use Rattle.numbers.specs.Choice.{first}
use Rattle.unit.proofs.Slots.{has}
use Rattle.unit.proofs.WordLaws.{byte_is, whole_is, looked_up}
use Rattle.output.specs.Output.{rests}
use Rattle.output.specs.Rules.{overridden}
use Rattle.output.proofs.turns.override_or_control.Goals as goal

pub returns-then-turned_on : goal.returns-then-turned_on
unfolding overridden first has
returns-then-turned_on c =
    let u = c.args.output.unit.now in
    let k = c.args.output.k in
    let h : k < 4 = c.args.output.is_one in
    rw (
      ← looked_up 0x2360 0x2361 u k h c.pair.ensures c.look_up-over.ensures refl refl,
      ← byte_is 0x2362 u k h c.byte.ensures refl,
      ← c.turned_on.ensures,
      c.if-turned_on.true,
    ) (c.rest.ensures ∙ ap rests (whole_is 0x2300 u k h c.whole.type_inv c.whole.ensures refl))

pub returns-then-failed : goal.returns-then-failed
unfolding overridden first has
returns-then-failed c =
    let u = c.args.output.unit.now in
    let k = c.args.output.k in
    let h : k < 4 = c.args.output.is_one in
    rw (
      ← looked_up 0x2360 0x2361 u k h c.pair.ensures c.look_up-over.ensures refl refl,
      ← byte_is 0x2362 u k h c.byte.ensures refl,
      ← c.turned_on.ensures,
      c.if-turned_on.false,
      ← c.failed.ensures,
      c.if-failed.true,
    ) (c.rest-then-failed.ensures ∙ ap rests (back c.fault.type_inv c.fault.ensures))

pub returns : goal.returns
unfolding overridden first has
returns c =
    let u = c.args.output.unit.now in
    let k = c.args.output.k in
    let h : k < 4 = c.args.output.is_one in
    rw (
      ← looked_up 0x2360 0x2361 u k h c.pair.ensures c.look_up-over.ensures refl refl,
      ← byte_is 0x2362 u k h c.byte.ensures refl,
      ← c.turned_on.ensures,
      c.if-turned_on.false,
      ← c.failed.ensures,
      c.if-failed.false,
    ) c.control.ensures
