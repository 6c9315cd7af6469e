-- `changes::comparing::four_before` meets its contract.
-- Assumes nothing.
use mathlib.Core.Path.{◌∙◌}
use Rattle.lists.proofs.changes.ComparingLaws.{four_there}
use Rattle.lists.proofs.changes.comparing.four_before.Goals as goal

pub returns : goal.returns
returns c =
    let pre = c.requires in
    c.four.ensures ∙ four_there _ pre.0 pre.1
