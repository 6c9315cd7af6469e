-- By the three signals and the two responses.
-- Assumes nothing.
use mathlib.Core.Path.{refl, ◌∙◌}
use native.Mathlib.Omega.{arith}
use Prim.Native.Nat.{◌<◌}
use Rattle.unit.proofs.Slots.{has}
use Rattle.unit.proofs.WordLaws.{byte_is}
use Rattle.output.specs.Output.{rule_of}
use Rattle.output.specs.Outputs.{settings}
use Rattle.controller.specs.Commands.{control, enable, override, rule_for}
use Rattle.why.specs.Answer.{signal}
use Rattle.why.specs.Trail.{pair}
use Rattle.why.proofs.asking.rule_of.Goals as goal

pub returns : goal.returns
unfolding rule_for rule_of settings control enable override signal pair has
returns c = let a = c.args in
    let h : a.output.k < 4 = a.output.is_one in
    c.rule.ensures
    ∙ rw (
      byte_is 0x2362 a.output.unit.now a.output.k h c.byte-2.ensures refl,
      byte_is 0x2352 a.output.unit.now a.output.k h c.byte.ensures refl,
      c.signal_of-control.ensures,
      c.control_of.ensures,
      c.signal_of-over.ensures,
      c.override_of.ensures,
      c.signal_of-enable.ensures,
      c.enable_of.ensures,
    )
