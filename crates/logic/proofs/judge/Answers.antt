-- `judge`: both numbers are there, or the definition says Error.
-- Assumes nothing.
use borrow.Enum.Refused.{opened}
use Rattle.numbers.specs.Choice.{first}
use Rattle.logic.specs.Logic.{compared, compared_to}
use Rattle.logic.proofs.LogicLaws.{no_left, no_right}
use Rattle.logic.proofs.judge.Goals as goal

pub returns-in_default : goal.returns-in_default
returns-in_default c = no_left _ _ _ c.as_real.ensures (opened c.in_default.in_default-own.keys2)

pub returns-in_default-as_real : goal.returns-in_default-as_real
unfolding compared
returns-in_default-as_real c =
    rw (← c.as_real.ensures, c.in-Real.is) (no_right _ _ _ c.as_real-2.ensures (opened c.in_default-as_real.in_default-as_real-own.keys2))

pub returns-then-compare : goal.returns-then-compare
unfolding compared compared_to first
returns-then-compare c =
    rw (← c.as_real.ensures, c.in-Real.is, ← c.as_real-2.ensures, c.in-Real-as_real.is, ← c.compare.ensures, c.if-compare.true)

pub returns : goal.returns
unfolding compared compared_to first
returns c =
    rw (← c.as_real.ensures, c.in-Real.is, ← c.as_real-2.ensures, c.in-Real-as_real.is, ← c.compare.ensures, c.if-compare.false)
