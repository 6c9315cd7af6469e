-- `finish`: by the fold's flag and the contracts of the two limits.
-- Assumes nothing.
use mathlib.Core.Path.{◌≡◌}
use borrow.Author.Rules.{rules}
use mir.Syntax.{w16}
use mir.Val.{to_z, of_z}
use Rattle.numbers.proofs.limits.LimitLaws.{of_real}
use Rattle.numbers.proofs.Tests.{tests}
use Rattle.numbers.specs.Choice.{first}
use Rattle.math.specs.Fold.{running}
use Rattle.math.specs.Math.{ended}
use Rattle.math.proofs.folding.finish.Goals as goal

pub returns-then-fold : goal.returns-then-fold
unfolding ended running first
returns-then-fold c = search tests

pub returns : goal.returns
unfolding ended running first
returns c =
    let ends = c.args.ends in
    let from : to_z w16 (of_z w16 ends.from) ≡ ends.from = search rules in
    let to : to_z w16 (of_z w16 ends.to) ≡ ends.to = search rules in
    simp (c.limit.ensures, c.limit-part.ensures, of_real, c.if-fold.false, from, to)
