-- The line at a limited x: for points in order the line itself, else the first y (`LineLaws`).
-- Assumes nothing.
use mathlib.Core.Path.{◌∙◌, sym}
use borrow.Author.Rules.{rules}
use mir.Facts.{to_z-of_z}
use mir.Syntax.{w16}
use mir.Val.{SFits}
use Rattle.numbers.proofs.whole_line.LineLaws.{limited_kept, limited_crossed}
use Rattle.numbers.proofs.Tests.{tests}
use Rattle.numbers.proofs.whole_line.limited.Goals as goal

pub returns-then-b-a : goal.returns-then-b-a
returns-then-b-a c = to_z-of_z {w = w16} (search rules) ∙ sym (limited_crossed _ _ _ _ (search tests) _)

pub returns : goal.returns
returns c =
    let x = c.args.x in
    let fits : SFits w16 x = search rules in
    to_z-of_z {w = w16} (search rules) ∙ (rw (to_z-of_z fits) at c.line.ensures) ∙ sym (limited_kept _ _ _ _ (search tests) x)
