-- So far up from the start: where that is short of the target it lies between two numbers that fit.
use mathlib.Core.Bool.{true}
use mathlib.Core.Path.{◌≡◌, ◌∙◌}
use lib.IntN.{pos, ◌+ℤ◌}
use mir.Syntax.{w32}
use mir.Val.{to_z, of_z}
use mir.Facts.{to_z-of_z}
use Rattle.numbers.specs.Choice.{first}
use Rattle.numbers.specs.Order.{below}
use Rattle.output.specs.Output.{rise}
use Rattle.output.proofs.Found.{higher_is}
use Rattle.numbers.proofs.ExactLaws.{wide_is, raised_is, back}
use Rattle.numbers.proofs.OrderLaws.{tested, below_le, up, between_fits}
use Rattle.output.proofs.climb.Goals as goal
use Rattle.output.proofs.climb.Goals.{After-raised-there, Then-there-from}

-- the number as the machine reads it
seen : (c : After-raised-there) → to_z w32 (of_z w32 c.raised-there.result) ≡ c.before.args.start +ℤ pos c.before.args.far
seen c = raised_is c.before.ranges.start c.before.ranges.far.fits c.raised-there.ensures

taken : (c : Then-there-from) → below (c.before.before.before.args.start +ℤ pos c.before.before.before.args.far) c.before.before.before.args.to ≡ true
taken c = tested (seen c.before.before) (wide_is c.before.before.before.ranges.to c.before.from.ensures) c.if-there-from.true

pub returns-then-there-from : goal.returns-then-there-from
unfolding rise first
returns-then-there-from c = rw (taken (goal.at.returns-then-there-from c).Then-there-from)
    (back c.max.type_inv (c.max.ensures.value ∙ rw (to_z-of_z c.ranges.from, back c.narrow.type_inv (c.narrow.ensures ∙ seen (goal.at.returns-then-there-from c).After-raised-there)) (higher_is _ _)))

pub returns : goal.returns
unfolding rise first
returns c = rw (tested (seen (goal.at.returns c).After-raised-there) (wide_is c.ranges.to c.from.ensures) c.if-there-from.false) (to_z-of_z c.ranges.to)
