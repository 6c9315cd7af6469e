-- `apply`: by the fold's flag, the zero divisor, and the contracts of `operate` and the limit.
-- Assumes nothing.
use Rattle.numbers.specs.Choice.{first}
use Rattle.numbers.proofs.limits.LimitLaws.{of_real}
use Rattle.math.specs.Fold.{running, resumed}
use Rattle.math.specs.Math.{operated_on}
use Rattle.math.proofs.MathLaws.{stays_broken}
use Rattle.math.proofs.apply.Goals as goal

pub returns-then-next : goal.returns-then-next
returns-then-next c = stays_broken _ _ _ c.if-next.true

pub returns-then-breaks : goal.returns-then-breaks
unfolding operated_on running resumed first
returns-then-breaks c = simp (c.if-next.false, ← c.breaks.ensures, c.if-breaks.true)

pub returns : goal.returns
unfolding operated_on running resumed first
returns c =
    simp (
      c.limit-run.ensures,
      of_real,
      c.operate.ensures,
      c.if-next.false,
      ← c.breaks.ensures,
      c.if-breaks.false,
    )
