-- The line of a limited number, read through the call that gives it.
-- Assumes nothing.
use Rattle.output.specs.Output.{target}
use Rattle.numbers.proofs.whole_line.LineCalls.{limited_is}
use borrow.Author.Rules.{rules}
use Rattle.output.proofs.aim.Goals as goal

pub returns : goal.returns
unfolding target
returns c =
    limited_is c.limited.type_inv c.limited.ensures (search rules) (search rules) (search rules) (search rules) (search rules)
