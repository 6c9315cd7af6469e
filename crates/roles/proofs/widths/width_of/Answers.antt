-- `widths::width_of` meets its contract: a role has the range that it stands for (`Cases`).
-- Assumes nothing.
use mathlib.Core.Path.{refl}
use mathlib.Core.List.{[], ◌∷◌}
use Rattle.numbers.specs.Choice.{first}
use Rattle.dictionary.proofs.Tabulate.{tabulate}
use Rattle.dictionary.specs.Rows.{width}
use Rattle.roles.specs.Roles.{ranged}
use Rattle.roles.specs.declared.types.Role.TheVariants.{Axis, Switch, Response, Digits, Operator, Comparison, Source, Number, Table, Byte, Real, Long}
use Rattle.roles.proofs.Cases.{named, left, nth, place, among}
use Rattle.roles.proofs.widths.width_of.Goals as goal

pub returns-in-Axis : goal.returns-in-Axis
unfolding width ranged
returns-in-Axis c = named (λ r. width (ranged r).kind) 1 (Axis ∷ Switch ∷ Response ∷ Digits ∷ Operator ∷ Comparison ∷ Source ∷ Number ∷ Table ∷ Byte ∷ []) c.in-Axis.is refl

pub returns-in-Real : goal.returns-in-Real
unfolding width ranged
returns-in-Real c = rw c.in-Real.is

pub returns-in-Long : goal.returns-in-Long
unfolding width ranged
returns-in-Long c = rw c.in-Long.is

pub returns-in_default : goal.returns-in_default
unfolding width ranged tabulate first nth place among
returns-in_default c =
    let d = c.in_default in
    left (λ r. width (ranged r).kind) 2 (Axis ∷ Switch ∷ Response ∷ Digits ∷ Operator ∷ Comparison ∷ Source ∷ Number ∷ Table ∷ Byte ∷ Real ∷ Long ∷ []) _ refl
    d.not-Axis d.not-Switch d.not-Response d.not-Digits d.not-Operator d.not-Comparison d.not-Source d.not-Number d.not-Table d.not-Byte d.not-Real d.not-Long
