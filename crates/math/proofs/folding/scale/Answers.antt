-- `scale`: the limit's contract, and each whole number read back from its bits.
-- Assumes nothing.
use mathlib.Core.Path.{◌≡◌}
use borrow.Author.Rules.{rules}
use mir.Syntax.{w16}
use mir.Val.{to_z, of_z}
use Rattle.numbers.proofs.limits.LimitLaws.{of_real}
use Rattle.math.specs.Math.{scaled}
use Rattle.math.proofs.folding.scale.Goals as goal

pub returns : goal.returns
unfolding scaled
returns c =
    let fold = c.args.fold in
    let from : to_z w16 (of_z w16 fold.ends.from) ≡ fold.ends.from = search rules in
    let to : to_z w16 (of_z w16 fold.ends.to) ≡ fold.ends.to = search rules in
    let gain : to_z w16 (of_z w16 fold.gain) ≡ fold.gain = search rules in
    simp (c.limit-part.ensures, of_real, from, to, gain)
