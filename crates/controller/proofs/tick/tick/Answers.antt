-- One phase after the other.
-- Assumes nothing.
use Prim.Native.Nat.{◌-◌}
use mathlib.Core.Path.{ap, ◌∙◌}
use lib.IntN.{pos}
use lib.ListN.{get_or}
use Rattle.dictionary.specs.Unit.{ticked_at}
use Rattle.unit.specs.Each.{each}
use Rattle.input.specs.Inputs.{input_turn}
use Rattle.math.specs.Maths.{math_turn}
use Rattle.table.specs.Tables.{table_turn}
use Rattle.logic.specs.Logics.{logic_turn}
use Rattle.output.specs.Outputs.{output_turn}
use Rattle.controller.specs.Register.{registered}
use Rattle.controller.specs.Tick.{marked, ticked}
use Rattle.controller.proofs.tick.tick.Goals as goal

pub returns : goal.returns
unfolding ticked marked ticked_at
returns c =
    let samples = c.args.samples in
    ap marked (c.register.ensures
    ∙ ap registered (c.outputs.ensures
    ∙ ap (each 4 output_turn) (c.logics.ensures
    ∙ ap (each 2 logic_turn) (c.tables.ensures
    ∙ ap (each 6 table_turn) (c.maths.ensures
    ∙ ap (each 4 math_turn) (c.inputs.ensures
    ∙ ap (each 4 (λ n. input_turn (get_or samples (n - 1) (pos 0)) n)) c.recall.ensures))))))
