-- What the tick leaves is shown.
-- Assumes nothing.
use Rattle.printer.proofs.Replies.{prints}
use Rattle.lever.specs.Told.{sampled}
use Rattle.lever.proofs.answering.take_tick.Goals as goal

pub returns : goal.returns
unfolding sampled
returns c =
    let t = c.spool_tick.ensures in
    record { left = t.unit; coils = t.sent; print = prints (rw (t.unit, t.sent)) c.show_sent.ensures }
