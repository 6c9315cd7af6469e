-- `reading::order::Pair::rises` meets its contract (`OrderLaws`).
-- Assumes nothing.
use borrow.Author.Rules.{sfits_of}
use Rattle.image.specs.Places.{rises}
use Rattle.image.proofs.reading.OrderLaws.{strictly, loosely}
use Rattle.image.proofs.reading.order.Pair.rises.Goals as goal

pub returns-then-self : goal.returns-then-self
unfolding rises
returns-then-self c =
    strictly _ _ _ c.number_at-low.ensures (sfits_of c.number_at-low.type_inv) c.number_at-high.ensures (sfits_of c.number_at-high.type_inv) c.if-self.true

pub returns : goal.returns
unfolding rises
returns c =
    loosely _ _ _ c.number_at-low.ensures (sfits_of c.number_at-low.type_inv) c.number_at-high.ensures (sfits_of c.number_at-high.type_inv) c.if-self.false
