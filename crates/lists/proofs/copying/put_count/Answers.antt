-- `lists::copying::put_count` meets its contract (`LaidLaws`).
-- Assumes nothing.
use mathlib.Core.Path.{ap, ◌∙◌}
use lib.ListN.{take}
use lib.Seq.{sets}
use Rattle.records.proofs.LaidLaws.{low_four}
use Rattle.lists.proofs.copying.put_count.Goals as goal

pub returns : goal.returns
returns c = let s = c.args in c.put_four.ensures ∙ ap (sets s.list.now 0) (ap (take 4) c.to_le_bytes.ensures ∙ low_four s.count)
