-- `gateway::number_of` meets its contract, case by case.
-- Assumes nothing.
use native.Mathlib.Omega.{arith}
use mir.Syntax.{w32}
use mir.Facts.{to_z-of_z}
use lib.IntN.{pos}
use Prim.Native.Nat.{◌+◌}
use Rattle.records.specs.Walk.{number}
use Rattle.image.proofs.BelowZero.{below_zero}
use Rattle.gateway.specs.Restored.{told}
use Rattle.gateway.proofs.number_of.Goals as goal

pub returns-in-Current : goal.returns-in-Current
unfolding told
returns-in-Current c =
    let small = c.number.type_inv in
    rw (c.in-Current.is, c.from.ensures, ← c.number.ensures) (below_zero c.number.result (omega arith))

pub returns-in-Wanted : goal.returns-in-Wanted
unfolding told
returns-in-Wanted c =
    let small = c.number-in-Wanted.type_inv in
    rw (c.in-Wanted.is, c.from-in-Wanted.ensures, ← c.number-in-Wanted.ensures, to_z-of_z {w = w32} {z = pos c.number-in-Wanted.result} (record { sfits = omega arith }))
    (below_zero (10 + c.number-in-Wanted.result) (omega arith))

pub returns-in-NoRoom : goal.returns-in-NoRoom
unfolding told number
returns-in-NoRoom c = rw (c.in-NoRoom.is, c.from-in-NoRoom.ensures, c.number-in-NoRoom.ensures)
