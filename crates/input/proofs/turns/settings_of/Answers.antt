-- Each setting is the word of its name.
-- Assumes nothing.
use Prim.Native.Nat.{◌<◌}
use mathlib.Core.Path.{refl}
use native.Mathlib.Omega.{arith}
use Rattle.unit.proofs.Slots.{has}
use Rattle.input.specs.Inputs.{settings}
use Rattle.unit.proofs.WordLaws.{whole_is, switched_is, time_is}
use Rattle.input.proofs.turns.settings_of.Goals as goal

pub returns : goal.returns
unfolding settings has
returns c = let a = c.args in
    let u = a.input.unit.now in
    let k = a.input.k in
    let h : k < 4 = a.input.is_one in
    rw (
      whole_is 0x7120 u k h c.whole.type_inv c.whole.ensures refl,
      whole_is 0x7121 u k h c.whole-2.type_inv c.whole-2.ensures refl,
      whole_is 0x7122 u k h c.whole-3.type_inv c.whole-3.ensures refl,
      whole_is 0x7123 u k h c.whole-4.type_inv c.whole-4.ensures refl,
      whole_is 0x7148 u k h c.whole-5.type_inv c.whole-5.ensures refl,
      whole_is 0x7149 u k h c.whole-6.type_inv c.whole-6.ensures refl,
      whole_is 0x2111 u k h c.whole-7.type_inv c.whole-7.ensures refl,
      switched_is 0x2110 u k h c.switched.ensures refl,
      time_is 0x2112 u k h c.time.ensures refl,
    )
