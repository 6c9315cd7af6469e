-- The outputs before k are done: the unit is theirs.
-- Assumes nothing.
use mathlib.Core.Path.{refl, ◌∙◌}
use native.Mathlib.Omega.{arith}
use Rattle.unit.proofs.Each.{more, done}
use Rattle.unit.specs.Each.{each}
use Rattle.output.specs.Outputs.{output_turn}
use Rattle.output.proofs.turns.outputs.Goals as goal

pub loop-k-init : goal.loop-k-init
unfolding each
loop-k-init c = (omega arith, refl)

pub loop-k-preserved : goal.loop-k-preserved
unfolding output_turn
loop-k-preserved c = let before = c.loop-k in
    (omega arith, c.remember.ensures ∙ rw (more output_turn _ before.k, ← before.invariant.1, c.drive.ensures))

pub returns : goal.returns
returns c = done output_turn _ c.loop-k.k 4 (omega arith) c.loop-k.invariant.1
