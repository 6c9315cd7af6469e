-- Each arm knows the operator.
-- Assumes nothing.
use borrow.Author.Tests.{ne_eqb}
use Rattle.numbers.specs.Choice.{first}
use Rattle.logic.specs.Gathering.{both}
use Rattle.logic.proofs.gathering.is_both.Goals as goal

pub returns-in-1 : goal.returns-in-1
unfolding both first
returns-in-1 c = rw c.in-1.is

pub returns-in-2 : goal.returns-in-2
unfolding both first
returns-in-2 c = rw c.in-2.is

pub returns-in-3 : goal.returns-in-3
unfolding both first
returns-in-3 c = rw c.in-3.is

pub returns-in_default : goal.returns-in_default
unfolding both first
returns-in_default c =
    let other = c.in_default.in_default-own.rest in
    let n = c.args.operator in
    rw (ne_eqb n 1 other.0.0.1, ne_eqb n 2 other.0.1, ne_eqb n 3 other.1)
