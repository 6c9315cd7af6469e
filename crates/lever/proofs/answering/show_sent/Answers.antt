-- Each number from its place.
-- Assumes nothing.
use borrow.Author.Rules.{sfits_of}
use mir.Facts.{to_z-of_z}
use Rattle.printer.proofs.Replies.{prints}
use Rattle.lever.proofs.Lines.{sent_line_lem}
use Rattle.lever.proofs.answering.show_sent.Goals as goal
use mir.Syntax.{w16}

pub returns : goal.returns
returns c =
    prints
    (sent_line_lem _ _ _ c.valve_commands.ensures c.valve_error_register-register.ensures
    (to_z-of_z {w = w16} (sfits_of c.show_tick-arg-1.given))
    (to_z-of_z {w = w16} (sfits_of c.show_tick-arg-2-1.given))
    (to_z-of_z {w = w16} (sfits_of c.show_tick-arg-3-1.given))
    (to_z-of_z {w = w16} (sfits_of c.show_tick-arg-4-1.given)))
    c.show_tick.ensures
