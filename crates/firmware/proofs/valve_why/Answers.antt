-- By what is answered.
-- Assumes nothing.
use mathlib.Core.Path.{sym, ap, ◌∙◌}
use mir.Facts.{to_z-of_z}
use mir.Syntax.{w32}
use Rattle.why.specs.Answer.{number}
use Rattle.firmware.proofs.Whys.{told_why}
use Rattle.firmware.proofs.valve_why.Goals as goal

pub returns-in-Ok : goal.returns-in-Ok
unfolding number
returns-in-Ok c = told_why c.why-answer.ensures (to_z-of_z {w = w32} {z = c.from.result} (record { sfits = c.from.type_inv }) ∙ c.from.ensures ∙ ap number (sym c.in-Ok.is))

pub returns-in-NoOutput : goal.returns-in-NoOutput
unfolding number
returns-in-NoOutput c = told_why c.why-answer.ensures (rw (c.in-Err.is, c.in-NoOutput.is))

pub returns-in-NoTick : goal.returns-in-NoTick
unfolding number
returns-in-NoTick c = told_why c.why-answer.ensures (rw (c.in-Err.is, c.in-NoTick.is))
