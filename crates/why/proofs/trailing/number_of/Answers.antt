-- Each end by its number.
-- Assumes nothing.
use Rattle.why.specs.Answer.{end_number}
use Rattle.why.proofs.trailing.number_of.Goals as goal

pub returns-in-Flagged : goal.returns-in-Flagged
unfolding end_number
returns-in-Flagged c = rw c.in-Flagged.is

pub returns-in-Divided : goal.returns-in-Divided
unfolding end_number
returns-in-Divided c = rw c.in-Divided.is

pub returns-in-Earlier : goal.returns-in-Earlier
unfolding end_number
returns-in-Earlier c = rw c.in-Earlier.is
