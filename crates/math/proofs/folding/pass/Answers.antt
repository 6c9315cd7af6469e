-- `pass`: by the test for an error.
-- Assumes nothing.
use mathlib.Core.Path.{sym}
use Rattle.numbers.specs.Choice.{first}
use Rattle.math.specs.Fold.{resumed}
use Rattle.math.proofs.MathLaws.{unchanged}
use Rattle.math.proofs.folding.pass.Goals as goal

pub returns-then-failed : goal.returns-then-failed
unfolding resumed first
returns-then-failed c = rw (← c.failed.ensures, c.if-failed.true)

pub returns-else-failed : goal.returns-else-failed
unfolding first
returns-else-failed c = rw (← c.failed.ensures, c.if-failed.false) (sym (unchanged _))
