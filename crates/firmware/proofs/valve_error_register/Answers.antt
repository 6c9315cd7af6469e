-- The register from its slot.
-- Assumes nothing.
use mathlib.Core.Path.{refl, ◌∙◌}
use Rattle.unit.proofs.Slots.{has}
use Rattle.firmware.proofs.Published.{the_register}
use Rattle.firmware.proofs.valve_error_register.Goals as goal

pub returns : goal.returns
unfolding has
returns c = c.byte_at.ensures ∙ the_register _ refl
