-- `start`: without a number the fold stays broken, with one `scale` gives the run.
-- Assumes nothing.
use borrow.Enum.Refused.{opened}
use borrow.Author.Rules.{rules}
use Rattle.math.specs.Fold.{begun, resumed}
use Rattle.math.specs.Math.{started, starts}
use Rattle.math.proofs.MathLaws.{unstarted}
use Rattle.math.proofs.folding.start.Goals as goal

pub returns-in_default : goal.returns-in_default
unfolding begun resumed
returns-in_default c = rw (unstarted c.args.input c.as_real.ensures (opened c.in_default.in_default-own.keys2)) (search rules)

pub returns : goal.returns
unfolding begun resumed started starts
returns c =
    simp (← c.as_real.ensures, c.in-Real.is, c.scale-run.ensures) (search rules)
