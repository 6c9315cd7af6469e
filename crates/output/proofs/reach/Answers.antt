-- By the direction.
-- Assumes nothing.
use mathlib.Core.Path.{◌∙◌}
use mir.Facts.{to_z-of_z}
use Rattle.numbers.specs.Choice.{first}
use Rattle.numbers.proofs.ExactLaws.{back}
use Rattle.output.specs.Output.{reached}
use Rattle.output.proofs.reach.Goals as goal

pub returns-then-rising : goal.returns-then-rising
unfolding reached first
returns-then-rising c = let f = c.ranges in
    rw c.if-rising.true (back c.climb.type_inv (c.climb.ensures ∙ rw (to_z-of_z f.start, to_z-of_z f.from, to_z-of_z f.to)))

pub returns : goal.returns
unfolding reached first
returns c = let f = c.ranges in
    rw c.if-rising.false (back c.sink.type_inv (c.sink.ensures ∙ rw (to_z-of_z f.start, to_z-of_z f.from, to_z-of_z f.to)))
