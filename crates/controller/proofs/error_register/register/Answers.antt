-- By the flags; 1001h by its slot.
-- Assumes nothing.
use mathlib.Core.Path.{refl}
use Rattle.numbers.specs.Choice.{first}
use Rattle.unit.proofs.Slots.{has, var}
use Rattle.unit.specs.Entry.{publish}
use Rattle.controller.specs.Register.{registered}
use Rattle.controller.proofs.error_register.register.Goals as goal

pub returns-then-any_flagged : goal.returns-then-any_flagged
unfolding registered publish first has
returns-then-any_flagged c = rw (var 0x1001 refl, ← c.any_flagged.ensures, c.if-any_flagged.true)

pub returns-else-any_flagged : goal.returns-else-any_flagged
unfolding registered publish first has
returns-else-any_flagged c = rw (var 0x1001 refl, ← c.any_flagged.ensures, c.if-any_flagged.false)
