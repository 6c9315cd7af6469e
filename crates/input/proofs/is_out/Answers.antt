-- With detect on the span decides, read through the calls that widen its ends.
use mir.Syntax.{w16}
use mir.Val.{SFits}
use Rattle.numbers.specs.Choice.{first}
use Rattle.input.specs.Input.{out}
use Rattle.numbers.proofs.ExactLaws.{wide_is}
use borrow.Author.Rules.{rules}
use Rattle.input.proofs.is_out.Goals as goal

pub returns-then-s : goal.returns-then-s
unfolding out first
returns-then-s c =
    let a = c.args in
    let f : SFits w16 a.s.start = search rules in
    let g : SFits w16 a.s.end = search rules in
    let h : SFits w16 a.sample = search rules in
    rw (
      c.is_within.ensures,
      c.if-s.true,
      wide_is f c.from.ensures,
      wide_is h c.from-then-s.ensures,
      wide_is g c.from-then-s-2.ensures,
    )

pub returns : goal.returns
unfolding out first
returns c = rw c.if-s.false
