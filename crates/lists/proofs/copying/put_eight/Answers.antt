-- `lists::copying::put_eight` meets its contract (`CopyingLaws`).
-- Assumes nothing.
use Rattle.lists.proofs.CopyingLaws.{eight_put}
use Rattle.lists.proofs.copying.put_eight.Goals as goal

pub returns : goal.returns
returns c =
    eight_put c.args.list.now c.args.wanted.now c.args.at c.args.place c.requires.1 c.put_four.ensures c.put_four-2.ensures
