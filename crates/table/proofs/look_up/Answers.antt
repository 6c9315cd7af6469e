-- By cases of the signal.
use mathlib.Core.Path.{ap, ◌∙◌}
use mir.Syntax.{w16}
use mir.Val.{SFits}
use mir.Facts.{to_z-of_z}
use Rattle.signals.specs.declared.signal.Signal.TheVariants.{Whole}
use Rattle.table.specs.Table.{curve, looked_up}
use Rattle.numbers.proofs.ExactLaws.{back}
use borrow.Author.Rules.{rules}
use Rattle.table.proofs.look_up.Goals as goal

pub returns-in-Whole : goal.returns-in-Whole
unfolding looked_up
returns-in-Whole c =
    let fits : SFits w16 c.in-Whole.v = search rules in
    rw c.in-Whole.is (ap Whole (back c.curved.type_inv (c.curved.ensures ∙ ap (curve _ _ _) (to_z-of_z fits))))

pub returns-in-Real : goal.returns-in-Real
unfolding looked_up
returns-in-Real c =
    rw c.in-Real.is
    (ap Whole (back c.curved-in-Real.type_inv (c.curved-in-Real.ensures ∙ ap (curve _ _ _) (back c.nearest.type_inv c.nearest.ensures))))

pub returns-in-Error : goal.returns-in-Error
unfolding looked_up
returns-in-Error c = rw c.in-Error.is

pub returns-in-Absent : goal.returns-in-Absent
unfolding looked_up
returns-in-Absent c = rw c.in-Absent.is
