-- The library's contract, so that a wrong body is refused for what it is.
-- Assumes nothing.
use borrow.Author.Rules.{sfits_of}
use mir.Facts.{to_z-of_z}
use mir.Syntax.{w32}
use Rattle.firmware_c.proofs.valve_save.Goals as goal

pub returns : goal.returns
returns c = rw (to_z-of_z {w = w32} (sfits_of c.valve_save.type_inv)) c.valve_save.ensures
