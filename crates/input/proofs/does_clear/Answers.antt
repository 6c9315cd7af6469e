-- With detect on the exact band decides, read through the calls that make its ends.
use mir.Syntax.{w16}
use mir.Val.{SFits}
use Rattle.numbers.specs.Choice.{first}
use Rattle.input.specs.Input.{clears}
use Rattle.numbers.proofs.ExactLaws.{wide_is, sum_is, difference_is}
use borrow.Author.Rules.{rules}
use Rattle.input.proofs.does_clear.Goals as goal

pub returns-then-s : goal.returns-then-s
unfolding clears first
returns-then-s c =
    let a = c.args in
    let start : SFits w16 a.s.start = search rules in
    let end : SFits w16 a.s.end = search rules in
    let hysteresis : SFits w16 a.s.hysteresis = search rules in
    let sample : SFits w16 a.sample = search rules in
    rw (
      c.is_within.ensures,
      c.if-s.true,
      sum_is start hysteresis c.sum.ensures,
      wide_is sample c.from.ensures,
      difference_is end hysteresis c.difference.ensures,
    )

pub returns : goal.returns
unfolding clears first
returns c = rw c.if-s.false
