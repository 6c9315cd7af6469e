-- `taking::greatest_of` meets its contract, role by role (`Cases`).
-- Assumes nothing.
use mathlib.Core.Path.{refl}
use mathlib.Core.List.{[], ◌∷◌}
use Rattle.std.specs.Prelude.{None}
use Rattle.numbers.specs.Choice.{first}
use Rattle.dictionary.proofs.Tabulate.{tabulate}
use Rattle.roles.specs.declared.types.Role.TheVariants.{Axis, Switch, Response, Digits, Operator, Comparison, Source, Number}
use Rattle.roles.proofs.Cases.{left, nth, place, among}
use Rattle.records.specs.Rows.{greatest}
use Rattle.records.proofs.taking.greatest_of.Goals as goal

pub returns-in-Axis : goal.returns-in-Axis
unfolding greatest
returns-in-Axis c = rw c.in-Axis.is

pub returns-in-Switch : goal.returns-in-Switch
unfolding greatest
returns-in-Switch c = rw c.in-Switch.is

pub returns-in-Response : goal.returns-in-Response
unfolding greatest
returns-in-Response c = rw c.in-Response.is

pub returns-in-Digits : goal.returns-in-Digits
unfolding greatest
returns-in-Digits c = rw c.in-Digits.is

pub returns-in-Operator : goal.returns-in-Operator
unfolding greatest
returns-in-Operator c = rw c.in-Operator.is

pub returns-in-Comparison : goal.returns-in-Comparison
unfolding greatest
returns-in-Comparison c = rw c.in-Comparison.is

pub returns-in-Source : goal.returns-in-Source
unfolding greatest
returns-in-Source c = rw c.in-Source.is

pub returns-in-Number : goal.returns-in-Number
unfolding greatest
returns-in-Number c = rw c.in-Number.is

pub returns-in_default : goal.returns-in_default
unfolding greatest tabulate first nth place among
returns-in_default c =
    let d = c.in_default in
    left greatest None (Axis ∷ Switch ∷ Response ∷ Digits ∷ Operator ∷ Comparison ∷ Source ∷ Number ∷ []) _ refl
    d.not-Axis d.not-Switch d.not-Response d.not-Digits d.not-Operator d.not-Comparison d.not-Source d.not-Number
