-- The number of what writing the image answers; the buffer is as `Written` says.
-- Assumes nothing.
use mathlib.Core.Path.{ap, ◌∙◌}
use Rattle.image.specs.Told.{told}
use borrow.Author.Rules.{sfits_of}
use mir.Facts.{to_z-of_z}
use Rattle.firmware.proofs.valve_save.Goals as goal
use mir.Syntax.{w32}

pub returns : goal.returns
returns c =
    let written = c.write.ensures in record { answered = to_z-of_z {w = w32} (sfits_of c.number_of.type_inv) ∙ c.number_of.ensures ∙ ap told written.answered; bytes = written.bytes }
