-- Each setting is the word of its name.
-- Assumes nothing.
use Prim.Native.Nat.{◌<◌}
use mathlib.Core.Path.{refl}
use native.Mathlib.Omega.{arith}
use Rattle.unit.proofs.Slots.{has}
use Rattle.output.specs.Outputs.{settings}
use Rattle.unit.proofs.WordLaws.{whole_is, byte_is, time_is}
use Rattle.output.proofs.ramps.settings_of.Goals as goal

pub returns : goal.returns
unfolding settings has
returns c = let a = c.args in
    let u = a.output.unit.now in
    let k = a.output.k in
    let h : k < 4 = a.output.is_one in
    rw (
      byte_is 0x2352 u k h c.byte.ensures refl,
      byte_is 0x2362 u k h c.byte-2.ensures refl,
      whole_is 0x7320 u k h c.whole.type_inv c.whole.ensures refl,
      whole_is 0x7322 u k h c.whole-2.type_inv c.whole-2.ensures refl,
      whole_is 0x7321 u k h c.whole-3.type_inv c.whole-3.ensures refl,
      whole_is 0x7323 u k h c.whole-4.type_inv c.whole-4.ensures refl,
      byte_is 0x6340 u k h c.byte-3.ensures refl,
      whole_is 0x7341 u k h c.whole-5.type_inv c.whole-5.ensures refl,
      whole_is 0x2300 u k h c.whole-6.type_inv c.whole-6.ensures refl,
      time_is 0x2330 u k h c.time.ensures refl,
      time_is 0x2331 u k h c.time-2.ensures refl,
    )
