-- Each part of the unit is eleven long.
-- Assumes nothing.
use Prim.Native.Nat.{◌+◌, ◌-◌}
use mathlib.Core.Path.{◌≡◌}
use native.Mathlib.Omega.{arith}
use Rattle.table.proofs.turns.curve.Goals as goal

pub returns : goal.returns
returns c =
    let a = c.args in
    let e : a.response + 11 - a.response ≡ 11 = omega arith in
    let f : a.x + 11 - a.x ≡ 11 = omega arith in
    let g : a.y + 11 - a.y ≡ 11 = omega arith in
    rw (c.look_up.ensures, e, f, g)
