-- Each command and the register from its slot.
-- Assumes nothing.
use mathlib.Core.Path.{refl}
use Rattle.numbers.proofs.ExactLaws.{back}
use Rattle.unit.proofs.Slots.{has}
use Rattle.printer.proofs.Replies.{prints, state_line_lem}
use Rattle.printer.proofs.answering.show_state.Goals as goal

pub returns : goal.returns
unfolding has
returns c =
    prints
    (state_line_lem _ _ _ _ _ _ refl refl
    (back c.whole_at-one.type_inv c.whole_at-one.ensures)
    (back c.whole_at-two.type_inv c.whole_at-two.ensures)
    (back c.whole_at-three.type_inv c.whole_at-three.ensures)
    (back c.whole_at-four.type_inv c.whole_at-four.ensures)
    c.byte_at-register.ensures)
    c.show_tick.ensures
