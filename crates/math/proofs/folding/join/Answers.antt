-- `join`: without a number `pass` takes the fold on, with one `apply` joins it.
-- Assumes nothing.
use borrow.Enum.Refused.{opened}
use borrow.Author.Rules.{rules}
use Rattle.math.specs.Fold.{running, toward}
use Rattle.math.specs.Math.{joined, joins}
use Rattle.math.proofs.MathLaws.{passed}
use Rattle.math.proofs.folding.join.Goals as goal

pub returns-in_default : goal.returns-in_default
unfolding running toward
returns-in_default c =
    let a = c.args in
    rw (c.pass.ensures, passed a.operator a.input (running a.fold) c.as_real.ensures (opened c.in_default.in_default-own.keys2))
    (search rules)

pub returns : goal.returns
unfolding running toward joined joins
returns c =
    rw (c.apply.ensures, c.scale.ensures, ← c.as_real.ensures, c.in-Real.is) (search rules)
