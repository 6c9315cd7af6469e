-- Each value against its own, as the words have them.
-- Assumes nothing.
use Prim.Native.Nat.{◌<◌}
use mathlib.Core.Path.{refl, sym, ◌∙◌}
use native.Mathlib.Omega.{arith}
use borrow.Author.Tests.{eq-eqb, ne_eqb}
use Rattle.numbers.proofs.ExactLaws.{back}
use Rattle.dictionary.specs.Unit.{ramp_rising_at, ramp_fv1_at, ramp_fv2_at, ramp_used_at}
use Rattle.unit.proofs.Slots.{has}
use Rattle.unit.proofs.WordLaws.{whole_is}
use Rattle.output.specs.Output.{unchanged}
use Rattle.output.specs.Outputs.{settings}
use Rattle.output.proofs.ramps.ReadLaws.{rising_is, fv1_is, fv2_is, used_is}
use Rattle.output.proofs.Found.{equal_is, alike_is}
use Rattle.output.proofs.ramps.is_unchanged.Goals as goal

pub returns-then-time-ramp : goal.returns-then-time-ramp
unfolding unchanged ramp_used_at
returns-then-time-ramp c = let a = c.args in
    rw (used_is a.output.unit.now a.output.k c.requires, ← c.time.ensures, ne_eqb _ _ c.if-time-ramp.true)

pub returns : goal.returns
unfolding unchanged settings has ramp_rising_at ramp_fv1_at ramp_fv2_at ramp_used_at
returns c = let a = c.args in
    let u = a.output.unit.now in
    let k = a.output.k in
    let h : k < 4 = a.output.is_one in
    let some = c.requires in
    rw (
      used_is u k some,
      ← c.time.ensures,
      eq-eqb _ _ c.if-time-ramp.false,
      rising_is u k some,
      ← c.switched.ensures,
      ← alike_is c.switched.result a.rising,
      ← equal_is c.whole.result c.whole-2.result c.whole.type_inv c.whole-2.type_inv (back c.whole.type_inv (c.whole.ensures ∙ sym (fv1_is u k some))) (whole_is 0x7321 u k h c.whole-2.type_inv c.whole-2.ensures refl),
      ← equal_is c.whole-3.result c.whole-4.result c.whole-3.type_inv c.whole-4.type_inv (back c.whole-3.type_inv (c.whole-3.ensures ∙ sym (fv2_is u k some))) (whole_is 0x7323 u k h c.whole-4.type_inv c.whole-4.ensures refl),
    )
