-- By the second argument: a whole number with its digits, all else as before.
-- Assumes nothing.
use Prim.Native.Nat.{◌+◌}
use borrow.Author.Rules.{rules}
use mir.Syntax.{w16}
use mir.Val.{SFits}
use mir.Facts.{to_z-of_z}
use Rattle.numbers.specs.Choice.{first}
use Rattle.signals.specs.Signal.{as_real, whole}
use Rattle.logic.specs.Logic.{compared, compared_to, verdict, judged}
use Rattle.logic.specs.Logics.{judged_at}
use Rattle.logic.proofs.turns.Arguments.{argued, with_digits}
use Rattle.logic.proofs.turns.against_whole.Goals as goal

pub returns-in-Whole : goal.returns-in-Whole
unfolding judged_at judged whole first
returns-in-Whole c =
    let u = c.args.asked.unit.now in
    let at = c.args.asked.at in
    let w : SFits w16 c.in-Whole.w = search rules in
    let same = rw (to_z-of_z c.ranges.v, to_z-of_z w) at c.in_same_digits.ensures in
    rw (
      ← argued u (at + 2) c.right-second.ensures c.look_up-right.ensures,
      c.in-Whole.is,
      ← with_digits u at c.left.ensures c.digits_of-d.ensures,
      ← with_digits u (at + 2) c.right-second.ensures c.digits_of-e.ensures,
      ← c.comparison.ensures,
      ← same,
    ) c.told.ensures

pub returns-in-Real : goal.returns-in-Real
unfolding judged_at judged verdict compared compared_to as_real first
returns-in-Real c =
    rw (
      ← argued c.args.asked.unit.now (c.args.asked.at + 2) c.right-second.ensures c.look_up-right.ensures,
      c.in-Real.is,
      ← c.comparison-in-Real.ensures,
      ← (rw (to_z-of_z c.ranges.v) at c.compare.ensures),
    ) c.told-in-Real.ensures

pub returns-in-Error : goal.returns-in-Error
unfolding judged_at judged verdict compared compared_to as_real first
returns-in-Error c = rw (← argued c.args.asked.unit.now (c.args.asked.at + 2) c.right-second.ensures c.look_up-right.ensures, c.in-Error.is)

pub returns-in-Absent : goal.returns-in-Absent
unfolding judged_at judged verdict first
returns-in-Absent c = rw (← argued c.args.asked.unit.now (c.args.asked.at + 2) c.right-second.ensures c.look_up-right.ensures, c.in-Absent.is)
