-- Each word below the counter is the start's (`StartLaws`).
-- Assumes nothing.
use Prim.Native.Nat.{◌-◌}
use Rattle.dictionary.specs.Unit.{unit_size}
use Rattle.roles.proofs.StartLaws.{Filled}
use Rattle.roles.proofs.start.fill.Given as goal

abbrev pub invariant-loop-row : goal.invariant-loop-row
invariant-loop-row l = Filled l.unit l.row

abbrev pub decreases-loop-row : goal.decreases-loop-row
decreases-loop-row l = unit_size - l.row
