-- By the row.
-- Assumes nothing.
use Rattle.numbers.specs.Choice.{first}
use Rattle.numbers.proofs.Tests.{tests}
use Rattle.why.specs.Trail.{next}
use Rattle.why.proofs.trailing.next.Goals as goal

pub returns-then-row-lt4 : goal.returns-then-row-lt4
unfolding next first
returns-then-row-lt4 c = search tests

pub returns-then-row-lt8 : goal.returns-then-row-lt8
unfolding next first
returns-then-row-lt8 c = rw c.math_next.ensures (search tests)

pub returns-then-row-lt14 : goal.returns-then-row-lt14
unfolding next first
returns-then-row-lt14 c = rw c.table_pair.ensures (search tests)

pub returns : goal.returns
unfolding next first
returns c = rw c.logic_pair.ensures (search tests)
