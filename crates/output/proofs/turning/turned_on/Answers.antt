-- Each arm knows the signal's case: a number is turned, all else is neither on nor off.
-- Assumes nothing.
use mathlib.Core.Bool.{not}
use mathlib.Core.Path.{refl, ap}
use lib.Ieee.{ne}
use mir.Syntax.{w16}
use mir.Val.{SFits}
use Rattle.output.specs.Turning.{is_on, is_off}
use Rattle.output.proofs.turning.TurnLaws.{zero_bits, number_on, none_on}
use borrow.Author.Rules.{rules}
use Rattle.output.proofs.turning.turned_on.Goals as goal

pub returns-in-Whole : goal.returns-in-Whole
unfolding is_on is_off
returns-in-Whole c =
    let v = c.in-Whole.v in
    let fits : SFits w16 v = search rules in
    rw c.in-Whole.is (number_on _ _ (zero_bits v fits) (ap not (zero_bits v fits)) c.turned.ensures)

pub returns-in-Real : goal.returns-in-Real
unfolding is_on is_off ne
returns-in-Real c = rw c.in-Real.is (number_on _ _ refl refl c.turned-in-Real.ensures)

pub returns-in-Error : goal.returns-in-Error
unfolding is_on is_off
returns-in-Error c = rw c.in-Error.is (none_on _ _ refl refl)

pub returns-in-Absent : goal.returns-in-Absent
unfolding is_on is_off
returns-in-Absent c = rw c.in-Absent.is (none_on _ _ refl refl)
