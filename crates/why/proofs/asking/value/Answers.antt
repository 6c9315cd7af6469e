-- By the signal's case.
-- Assumes nothing.
use mathlib.Core.Path.{ap, ◌∙◌}
use Rattle.why.specs.Answer.{extended, value}
use Rattle.why.proofs.asking.value.Goals as goal

pub returns-in-Whole : goal.returns-in-Whole
unfolding value
returns-in-Whole c =
    let told = c.in-Whole.is in
    rw told (rw told at (c.extended.ensures ∙ ap extended c.number_of.ensures))

pub returns-in-Real : goal.returns-in-Real
unfolding value
returns-in-Real c =
    let told = c.in-Real.is in
    rw told (rw told at c.number_of-in-Real.ensures)

pub returns-in-Error : goal.returns-in-Error
unfolding value
returns-in-Error c = rw c.in-Error.is

pub returns-in-Absent : goal.returns-in-Absent
unfolding value
returns-in-Absent c = rw c.in-Absent.is
