-- The math block's fold as a struct holds it between two inputs: the running result, and the gain and the scaling ends of the input
-- that joined last.
-- Assumes nothing.
use Rattle.std.specs.Prelude.{true, false}
use Rattle.numbers.specs.Choice.{first}
use Rattle.math.specs.Math.{Running, at, broken, zero}
use Rattle.math.specs.declared.Operand.{Operand}
use Rattle.math.specs.declared.Fold.{Fold}

-- what the running f32 and the flag stand for
unfoldable pub running : Fold → Running
running fold = first fold.failed broken (at fold.run)

-- the same fold with another running result; a broken one keeps the f32 that it had
unfoldable pub resumed : Fold → Running → Fold
resumed fold (at run) = record { run = run; gain = fold.gain; ends = fold.ends; failed = false }
resumed fold broken = record { run = fold.run; gain = fold.gain; ends = fold.ends; failed = true }

-- before input 1 there is no running result
unfoldable pub begun : Operand → Fold
begun input = record { run = zero; gain = input.gain; ends = input.ends; failed = true }

-- the same running result, before the next input
unfoldable pub toward : Fold → Operand → Fold
toward fold next = record { run = fold.run; gain = next.gain; ends = next.ends; failed = fold.failed }
