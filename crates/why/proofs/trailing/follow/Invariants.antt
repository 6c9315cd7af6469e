-- What is left of the trail comes to the whole (`Walks`).
-- Assumes nothing.
use Prim.Native.Nat.{◌-◌}
use Rattle.why.proofs.Walks.{Left}
use Rattle.why.proofs.trailing.follow.Given as goal

abbrev pub invariant-loop-i : goal.invariant-loop-i
invariant-loop-i l = Left l.unit l.initial.row l.row l.i l.initial.trail l.trail

abbrev pub decreases-loop-i : goal.decreases-loop-i
decreases-loop-i l = 16 - l.i
