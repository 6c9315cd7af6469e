-- `changes::comparing::rises_at` meets its contract (`ComparingLaws`).
-- Assumes nothing.
use borrow.Author.Rules.{sfits_of}
use Rattle.lists.proofs.changes.ComparingLaws.{compared}
use Rattle.lists.proofs.changes.comparing.rises_at.Goals as goal

pub returns : goal.returns
returns c = compared c.number_at-first.ensures (sfits_of c.number_at-first.type_inv) c.number_at-second.ensures (sfits_of c.number_at-second.type_inv)
