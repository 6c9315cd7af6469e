-- The count, the steps, the end (`Bytes`).
-- Assumes nothing.
use Rattle.why.proofs.Bytes.{trail_put}
use Rattle.why.proofs.asking.put_trail.Goals as goal

pub returns : goal.returns
returns c = trail_put _ _ c.follow-walked.ensures c.number_of.ensures c.put.ensures c.put-2.ensures
