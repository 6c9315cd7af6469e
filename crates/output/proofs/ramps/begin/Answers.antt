-- By the tick's number: only a count that goes on is read.
-- Assumes nothing.
use mathlib.Core.Path.{sym, ◌∙◌}
use borrow.Author.Tests.{ne_eqb}
use mir.Facts.{to_z-of_z}
use Rattle.numbers.specs.Choice.{first}
use Rattle.numbers.proofs.ExactLaws.{back}
use Rattle.dictionary.specs.Unit.{ramp_start_at}
use Rattle.output.specs.Output.{begun}
use Rattle.output.proofs.ramps.ReadLaws.{start_is}
use Rattle.output.proofs.ramps.begin.Goals as goal

pub returns-then-ticks-eq1 : goal.returns-then-ticks-eq1
unfolding begun first
returns-then-ticks-eq1 c = rw c.if-ticks-eq1.true (to_z-of_z c.ranges.from)

pub returns : goal.returns
unfolding begun first ramp_start_at
returns c = let a = c.args in
    let more = c.if-ticks-eq1.false in
    rw (ne_eqb _ 1 more) (back c.whole.type_inv (c.whole.ensures ∙ sym (start_is a.output.unit.now a.output.k (c.requires more))))
