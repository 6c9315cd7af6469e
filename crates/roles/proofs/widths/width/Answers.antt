-- `widths::width` meets its contract: a slot's type is its role's (`WidthLaws`).
-- Assumes nothing.
use mathlib.Core.Path.{ap, ◌∙◌}
use Rattle.dictionary.specs.Rows.{width}
use Rattle.roles.proofs.widths.WidthLaws.{kind_told}
use Rattle.roles.proofs.widths.width.Goals as goal

pub returns : goal.returns
returns c = c.width_of.ensures ∙ ap width (kind_told c.role_of.ensures)
