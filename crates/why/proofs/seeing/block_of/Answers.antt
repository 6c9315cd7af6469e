-- By the source.
-- Assumes nothing.
use mathlib.Core.Path.{◌∙◌}
use borrow.Author.Tests.{ne_eqb}
use Rattle.numbers.specs.Choice.{first}
use Rattle.why.specs.Seen.{block_of, placed}
use Rattle.why.proofs.seeing.block_of.Goals as goal

pub returns-in-2 : goal.returns-in-2
unfolding block_of placed first
returns-in-2 c = c.among.ensures ∙ rw c.in-2.is

pub returns-in-3 : goal.returns-in-3
unfolding block_of placed first
returns-in-3 c = c.among-in-3.ensures ∙ rw c.in-3.is

pub returns-in-4 : goal.returns-in-4
unfolding block_of placed first
returns-in-4 c = c.among-in-4.ensures ∙ rw c.in-4.is

pub returns-in-5 : goal.returns-in-5
unfolding block_of placed first
returns-in-5 c = c.among-in-5.ensures ∙ rw c.in-5.is

pub returns-in_default : goal.returns-in_default
unfolding block_of placed first
returns-in_default c =
    let other = c.in_default.in_default-own.rest in
    let n = c.args.pair.source in
    rw (ne_eqb n 2 other.0.0.0.1, ne_eqb n 3 other.0.0.1, ne_eqb n 4 other.0.1, ne_eqb n 5 other.1)
