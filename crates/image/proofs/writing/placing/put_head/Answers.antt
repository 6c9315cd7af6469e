-- `writing::placing::put_head` meets its contract: three numbers, one behind the other (`PlacingLaws`).
-- Assumes nothing.
use Rattle.image.proofs.writing.PlacingLaws.{head_put}
use Rattle.image.proofs.writing.placing.put_head.Goals as goal

pub returns : goal.returns
returns c =
    head_put _ _ _ _ _ c.put_number.ensures c.put_number-2.ensures c.put_number-3.ensures
