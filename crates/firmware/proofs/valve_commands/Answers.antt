-- Each command from its slot.
-- Assumes nothing.
use mathlib.Core.Path.{refl}
use Rattle.numbers.proofs.ExactLaws.{back}
use Rattle.unit.proofs.Slots.{has}
use Rattle.firmware.proofs.Published.{four_commands}
use Rattle.firmware.proofs.valve_commands.Goals as goal

pub returns : goal.returns
unfolding has
returns c =
    four_commands _ refl
    (back c.whole_at-one.type_inv c.whole_at-one.ensures)
    (back c.whole_at-two.type_inv c.whole_at-two.ensures)
    (back c.whole_at-three.type_inv c.whole_at-three.ensures)
    (back c.whole_at-four.type_inv c.whole_at-four.ensures)
