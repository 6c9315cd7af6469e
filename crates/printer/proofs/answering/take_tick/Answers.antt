-- What the tick leaves is shown.
-- Assumes nothing.
use mathlib.Core.Path.{ap}
use Rattle.printer.specs.Answering.{sampled, state_line}
use Rattle.printer.proofs.Replies.{prints}
use Rattle.printer.proofs.answering.take_tick.Goals as goal

pub returns : goal.returns
unfolding sampled
returns c =
    let t = c.tick.ensures in
    record { left = t; print = prints (ap state_line t) c.show_state.ensures }
