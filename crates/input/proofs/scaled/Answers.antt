-- The line of a limited number, read through the call that gives it.
-- Assumes nothing.
use Rattle.input.specs.Input.{process}
use Rattle.numbers.proofs.whole_line.LineCalls.{limited_is}
use borrow.Author.Rules.{rules}
use Rattle.input.proofs.scaled.Goals as goal

pub returns : goal.returns
unfolding process
returns c =
    limited_is c.limited.type_inv c.limited.ensures (search rules) (search rules) (search rules) (search rules) (search rules)
