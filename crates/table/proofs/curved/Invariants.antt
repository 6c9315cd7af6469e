-- The walk's invariant: no point before k ended the table, and none was reached. The measure is what is left of the points.
use Prim.Native.Nat.{◌-◌}
use Rattle.table.proofs.TableLaws.{Walked}
use Rattle.table.proofs.curved.Given as goal

abbrev pub invariant-loop-k : goal.invariant-loop-k
invariant-loop-k l = Walked l.response l.x l.v l.k

abbrev pub decreases-loop-k : goal.decreases-loop-k
decreases-loop-k l = 11 - l.k
