-- The command and the count, over what the first tick notes.
-- Assumes nothing.
use Prim.Native.Nat.{◌+◌, ◌-◌, ◌<◌}
use mathlib.Core.Path.{◌≡◌, refl}
use native.Mathlib.Omega.{arith}
use mir.Facts.{to_z-of_z}
use mir.Syntax.{w16}
use mir.Val.{SFits}
use Rattle.dictionary.specs.Unit.{ramp_count_at}
use Rattle.unit.proofs.Slots.{has, array}
use Rattle.unit.specs.Entry.{publish}
use Rattle.output.specs.Outputs.{remember}
use borrow.Author.Rules.{rules}
use Rattle.output.proofs.ramps.remember.Goals as goal

pub returns : goal.returns
unfolding remember publish has ramp_count_at
returns c = let a = c.args in
    let k = a.k in
    let h : k < 4 = omega arith in
    let e : k + 1 - 1 ≡ k = omega arith in
    let command : SFits w16 a.m.command = search rules in
    rw (e, array 0x7330 refl k h, c.pattern.ensures, to_z-of_z command, c.note.ensures)
