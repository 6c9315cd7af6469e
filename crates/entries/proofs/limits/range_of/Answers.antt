-- `entries::limits::range_of` meets its contract: a role has the range that it stands for (`Cases`).
-- Assumes nothing.
use mathlib.Core.Path.{refl, ◌∙◌}
use mathlib.Core.List.{[], ◌∷◌}
use Rattle.numbers.specs.Choice.{first}
use Rattle.dictionary.specs.Rows.{i16}
use Rattle.dictionary.proofs.Tabulate.{tabulate}
use Rattle.roles.specs.Roles.{ranged}
use Rattle.roles.specs.declared.types.Role.TheVariants.{Axis, Switch, Response, Digits, Operator, Comparison, Source, Number, Table, Byte, Real, Time, Positive, Gain, Current, FvLow, FvHigh, Long}
use Rattle.roles.proofs.Cases.{named, left, nth, place, among}
use Rattle.entries.proofs.limits.range_of.Goals as goal

pub returns-in-Axis : goal.returns-in-Axis
unfolding ranged
returns-in-Axis c = c.range.ensures ∙ rw c.in-Axis.is

pub returns-in-Switch : goal.returns-in-Switch
unfolding ranged
returns-in-Switch c = c.range-in-Switch.ensures ∙ rw c.in-Switch.is

pub returns-in-Response : goal.returns-in-Response
unfolding ranged
returns-in-Response c = c.range-in-Response.ensures ∙ rw c.in-Response.is

pub returns-in-Digits : goal.returns-in-Digits
unfolding ranged
returns-in-Digits c = c.range-in-Digits.ensures ∙ rw c.in-Digits.is

pub returns-in-Operator : goal.returns-in-Operator
unfolding ranged
returns-in-Operator c = c.range-in-Operator.ensures ∙ rw c.in-Operator.is

pub returns-in-Comparison : goal.returns-in-Comparison
unfolding ranged
returns-in-Comparison c = c.range-in-Comparison.ensures ∙ rw c.in-Comparison.is

pub returns-in-Source : goal.returns-in-Source
unfolding ranged
returns-in-Source c = c.range-in-Source.ensures ∙ rw c.in-Source.is

pub returns-in-Number : goal.returns-in-Number
unfolding ranged
returns-in-Number c = c.range-in-Number.ensures ∙ rw c.in-Number.is

pub returns-in-Table : goal.returns-in-Table
unfolding ranged
returns-in-Table c = c.range-in-Table.ensures ∙ rw c.in-Table.is

pub returns-in-Byte : goal.returns-in-Byte
unfolding ranged
returns-in-Byte c = c.range-in-Byte.ensures ∙ rw c.in-Byte.is

pub returns-in-Real : goal.returns-in-Real
unfolding ranged
returns-in-Real c = c.range-in-Real.ensures ∙ rw c.in-Real.is

pub returns-in-Time : goal.returns-in-Time
unfolding ranged
returns-in-Time c = c.range-in-Time.ensures ∙ rw c.in-Time.is

pub returns-in-Positive : goal.returns-in-Positive
unfolding ranged
returns-in-Positive c = c.range-in-Positive.ensures ∙ rw c.in-Positive.is

pub returns-in-Gain : goal.returns-in-Gain
unfolding ranged
returns-in-Gain c = c.range-in-Gain.ensures ∙ rw c.in-Gain.is

pub returns-in-Long : goal.returns-in-Long
unfolding ranged
returns-in-Long c = c.range-in-Long.ensures ∙ rw c.in-Long.is

pub returns-in-Current : goal.returns-in-Current
unfolding ranged
returns-in-Current c = c.range-in-Current.ensures ∙ named ranged _ (Current ∷ FvLow ∷ FvHigh ∷ []) c.in-Current.is refl

pub returns-in_default : goal.returns-in_default
unfolding ranged tabulate first nth place among
returns-in_default c =
    let d = c.in_default in
    c.range-in_default.ensures ∙ left ranged (i16 0).range (Axis ∷ Switch ∷ Response ∷ Digits ∷ Operator ∷ Comparison ∷ Source ∷ Number ∷ Table ∷ Byte ∷ Real ∷ Time ∷ Positive ∷ Gain ∷ Current ∷ FvLow ∷ FvHigh ∷ Long ∷ []) _ refl
    d.not-Axis d.not-Switch d.not-Response d.not-Digits d.not-Operator d.not-Comparison d.not-Source d.not-Number d.not-Table d.not-Byte d.not-Real d.not-Time d.not-Positive d.not-Gain d.not-Current d.not-FvLow d.not-FvHigh d.not-Long
