-- By the word of the mode.
-- Assumes nothing.
use Prim.Native.Nat.{◌<◌}
use mathlib.Core.Path.{refl}
use native.Mathlib.Omega.{arith}
use borrow.Author.Tests.{ne_eqb}
use Rattle.numbers.specs.Choice.{first}
use Rattle.output.specs.Output.{fault_of}
use Rattle.unit.proofs.Slots.{has}
use Rattle.output.specs.Outputs.{settings}
use Rattle.output.specs.Rules.{fault_for}
use Rattle.unit.proofs.WordLaws.{byte_is, whole_is}
use Rattle.output.proofs.turns.fault.Goals as goal

pub returns-then-byte-eq0 : goal.returns-then-byte-eq0
unfolding fault_for fault_of settings has first
returns-then-byte-eq0 c = let a = c.args in
    let u = a.output.unit.now in
    let k = a.output.k in
    let h : k < 4 = a.output.is_one in
    rw (← byte_is 0x6340 u k h c.byte.ensures refl, c.if-byte-eq0.true) (whole_is 0x7330 u k h c.whole.type_inv c.whole.ensures refl)

pub returns : goal.returns
unfolding fault_for fault_of settings has first
returns c = let a = c.args in
    let u = a.output.unit.now in
    let k = a.output.k in
    let h : k < 4 = a.output.is_one in
    rw (← byte_is 0x6340 u k h c.byte.ensures refl, ne_eqb _ 0 c.if-byte-eq0.false) (whole_is 0x7341 u k h c.whole-2.type_inv c.whole-2.ensures refl)
