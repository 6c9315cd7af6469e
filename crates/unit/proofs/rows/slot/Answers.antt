-- Past the last in any unit.
-- Assumes nothing.
use native.Mathlib.Omega.{arith}
use Rattle.unit.proofs.Past.{past}
use Rattle.unit.proofs.rows.slot.Goals as goal

pub returns-else-first-lt-UNIT : goal.returns-else-first-lt-UNIT
returns-else-first-lt-UNIT c = past c.args.unit.now (omega (arith, c.told-unit)) (omega (arith, c.told-unit))
