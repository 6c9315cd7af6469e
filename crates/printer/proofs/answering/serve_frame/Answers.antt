-- The reply as it stands in the buffer, or -.
-- Assumes nothing.
use mathlib.Core.Path.{ap, ◌∙◌}
use Rattle.sdo.specs.Served.{after}
use Rattle.printer.specs.Printing.{reply_line}
use Rattle.printer.specs.Answering.{decided, shown}
use Rattle.printer.proofs.Replies.{prints, answered}
use Rattle.printer.proofs.answering.serve_frame.Goals as goal

pub returns-in-Some : goal.returns-in-Some
unfolding decided
returns-in-Some c =
    let s = c.serve.ensures in
    let told = ap reply_line (rw c.in-Some.is at s.bytes) ∙ answered _ _ ∙ ap (shown _) (rw c.in-Some.is at s.answered) in
    record { state = s.state ∙ ap (after _) s.answered; print = prints told c.show_reply.ensures }

pub returns-in-None : goal.returns-in-None
unfolding decided shown
returns-in-None c =
    let s = c.serve.ensures in
    record { state = s.state ∙ ap (after _) s.answered; print = prints (ap (shown _) (rw c.in-None.is at s.answered)) c.show_silent.ensures }
