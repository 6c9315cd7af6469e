-- `records::rows::Row::role_at` meets its contract, test by test.
-- Assumes nothing.
use Rattle.numbers.specs.Choice.{first}
use Rattle.numbers.proofs.Tests.{tests}
use Rattle.records.specs.Rows.{role_at, value_at}
use Rattle.records.proofs.rows.Row.role_at.Goals as goal

pub returns-in-Each : goal.returns-in-Each
unfolding role_at value_at
returns-in-Each c = rw c.in-Each.is

pub returns-in-Condition : goal.returns-in-Condition
unfolding role_at value_at first
returns-in-Condition c = rw c.in-Condition.is (search tests)

pub returns-in-Condition-2 : goal.returns-in-Condition-2
unfolding role_at value_at first
returns-in-Condition-2 c = rw c.in-Condition.is (search tests)

pub returns-in-Condition-3 : goal.returns-in-Condition-3
unfolding role_at value_at first
returns-in-Condition-3 c = rw c.in-Condition.is (search tests)
