-- So far down from the start: where that is short of the target it lies between two numbers that fit.
use mathlib.Core.Bool.{true}
use mathlib.Core.Path.{◌≡◌, ◌∙◌}
use lib.IntN.{pos, ◌-ℤ◌}
use mir.Syntax.{w32}
use mir.Val.{to_z, of_z}
use mir.Facts.{to_z-of_z}
use Rattle.numbers.specs.Choice.{first}
use Rattle.numbers.specs.Order.{below}
use Rattle.output.specs.Output.{fall}
use Rattle.output.proofs.Found.{lower_is}
use Rattle.numbers.proofs.ExactLaws.{wide_is, lowered_is, back}
use Rattle.numbers.proofs.OrderLaws.{tested, below_le, down, between_fits}
use Rattle.output.proofs.sink.Goals as goal
use Rattle.output.proofs.sink.Goals.{After-lowered-there, Then-from-there}

-- the number as the machine reads it
seen : (c : After-lowered-there) → to_z w32 (of_z w32 c.lowered-there.result) ≡ c.before.args.start -ℤ pos c.before.args.far
seen c = lowered_is c.before.ranges.start c.before.ranges.far.fits c.lowered-there.ensures

taken : (c : Then-from-there) → below c.before.before.before.args.to (c.before.before.before.args.start -ℤ pos c.before.before.before.args.far) ≡ true
taken c = tested (wide_is c.before.before.before.ranges.to c.before.from.ensures) (seen c.before.before) c.if-from-there.true

pub returns-then-from-there : goal.returns-then-from-there
unfolding fall first
returns-then-from-there c = rw (taken (goal.at.returns-then-from-there c).Then-from-there)
    (back c.min.type_inv (c.min.ensures.value ∙ rw (to_z-of_z c.ranges.from, back c.narrow.type_inv (c.narrow.ensures ∙ seen (goal.at.returns-then-from-there c).After-lowered-there)) (lower_is _ _)))

pub returns : goal.returns
unfolding fall first
returns c = rw (tested (wide_is c.ranges.to c.from.ensures) (seen (goal.at.returns c).After-lowered-there) c.if-from-there.false) (to_z-of_z c.ranges.to)
