-- By the first argument: a whole number may be one of two, all else is judged as before, the second read as REAL32 (`LogicLaws`).
-- Assumes nothing.
use Prim.Native.Nat.{◌+◌}
use borrow.Enum.Refused.{opened}
use mathlib.Core.Path.{sym, ◌∙◌}
use borrow.Author.Rules.{rules}
use mir.Syntax.{w16}
use mir.Val.{SFits}
use mir.Facts.{to_z-of_z}
use Rattle.logic.specs.Logics.{judged_at, condition_at}
use Rattle.logic.proofs.LogicLaws.{verdict_real, judged_absent, as_before}
use Rattle.logic.proofs.turns.Arguments.{argued}
use Rattle.logic.proofs.turns.judge_at.Goals as goal

pub returns-then-absent : goal.returns-then-absent
unfolding condition_at judged_at
returns-then-absent c =
    sym (judged_absent _ _ _ _ _ (rw (← argued c.args.asked.unit.now c.args.asked.at c.left.ensures c.look_up-left.ensures) (sym c.absent.ensures ∙ c.if-absent.true)))

pub returns-in_default : goal.returns-in_default
unfolding condition_at judged_at
returns-in_default c =
    let u = c.args.asked.unit.now in
    let at = c.args.asked.at in
    rw (
      ← argued u at c.left.ensures c.look_up-left.ensures,
      ← argued u (at + 2) c.right.ensures c.look_up.ensures,
      as_before _ _ _ _ _ (opened c.in_default.in_default-own.keys2),
      ← verdict_real,
      ← c.as_real-right.ensures,
      ← c.comparison.ensures,
    ) c.condition.ensures

pub returns : goal.returns
unfolding condition_at
returns c =
    let v : SFits w16 c.in-Whole.v = search rules in
    rw (← argued c.args.asked.unit.now c.args.asked.at c.left.ensures c.look_up-left.ensures, c.in-Whole.is)
    (rw (to_z-of_z v) at c.against_whole.ensures)
