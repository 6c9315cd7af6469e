-- `does_count`: by the verdict; only what is not available asks for the operator.
-- Assumes nothing.
use mathlib.Core.Bool.{Bool, true, false}
use mathlib.Core.Path.{◌≡◌, refl}
use Rattle.numbers.specs.Choice.{first}
use Rattle.logic.specs.Gathering.{counts}
use Rattle.logic.proofs.gathering.does_count.Goals as goal

either : (t b : Bool) → b ≡ first t b b
unfolding first
either true b = refl
either false b = refl

itself : (t : Bool) → t ≡ first t true false
unfolding first
itself true = refl
itself false = refl

pub returns-in-False : goal.returns-in-False
unfolding counts
returns-in-False c = rw c.in-False.is (either _ false)

pub returns-in-True : goal.returns-in-True
unfolding counts
returns-in-True c = rw c.in-True.is (either _ true)

pub returns-in-Error : goal.returns-in-Error
unfolding counts
returns-in-Error c = rw c.in-Error.is (either _ false)

pub returns-in-NotAvailable : goal.returns-in-NotAvailable
unfolding counts
returns-in-NotAvailable c = rw c.in-NotAvailable.is (itself _)
