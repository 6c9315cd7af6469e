-- `reading::order::number_at` meets its contract: the two bytes are those at the place (`OrderLaws`).
-- Assumes nothing.
use mathlib.Core.Path.{ap, ◌∙◌}
use borrow.Author.Rules.{sfits_of}
use mir.Facts.{to_z-of_z}
use Rattle.numbers.specs.Signed.{signed16}
use Rattle.image.proofs.reading.OrderLaws.{number_read, number_past}
use Rattle.image.proofs.reading.order.number_at.Goals as goal
use mir.Syntax.{w16}

pub returns-then-place-image : goal.returns-then-place-image
returns-then-place-image c =
    to_z-of_z {w = w16} (sfits_of c.signed.type_inv) ∙ c.signed.ensures ∙ ap signed16 c.two.ensures ∙ number_read _ _ c.if-place-image.true

pub returns : goal.returns
returns c = number_past _ _ c.if-place-image.false
