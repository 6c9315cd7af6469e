-- What the refusal's number is decides.
-- Assumes nothing.
use native.Mathlib.Omega.{arith}
use Rattle.image.proofs.BelowZero.{below_zero}
use Rattle.image.specs.Told.{told}
use Rattle.records.specs.Walk.{outcome_number}
use Rattle.image.proofs.refusals.number_of.Goals as goal

pub returns-in-Ok : goal.returns-in-Ok
unfolding told outcome_number
returns-in-Ok c = rw c.in-Ok.is

pub returns-in-Err : goal.returns-in-Err
unfolding told outcome_number
returns-in-Err c = rw (c.in-Err.is, c.from.ensures, ← c.number.ensures) (let small = c.number.type_inv in below_zero c.number.result (omega arith))
