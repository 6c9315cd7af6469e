-- The number of what reading the image finds; the unit is as `Loaded` says.
-- Assumes nothing.
use mathlib.Core.Path.{ap, ◌∙◌}
use Rattle.image.specs.Told.{told}
use borrow.Author.Rules.{sfits_of}
use mir.Facts.{to_z-of_z}
use Rattle.firmware.proofs.valve_load.Goals as goal
use mir.Syntax.{w32}

pub returns : goal.returns
returns c =
    let loaded = c.read.ensures in record { answered = to_z-of_z {w = w32} (sfits_of c.number_of.type_inv) ∙ c.number_of.ensures ∙ ap told loaded.answered; state = loaded.state }
