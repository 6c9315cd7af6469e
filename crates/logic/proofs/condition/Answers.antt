-- `condition`: by the test for a missing argument, then the contract of `judge`.
-- Assumes nothing.
use Rattle.numbers.specs.Choice.{first}
use Rattle.logic.specs.Logic.{verdict}
use Rattle.logic.proofs.condition.Goals as goal

pub returns-then-absent : goal.returns-then-absent
unfolding verdict first
returns-then-absent c = rw (← c.absent.ensures, ← c.absent-2.ensures, c.if-absent.true)

pub returns : goal.returns
unfolding verdict first
returns c =
    rw (← c.absent.ensures, ← c.absent-2.ensures, c.if-absent.false) c.judge.ensures
