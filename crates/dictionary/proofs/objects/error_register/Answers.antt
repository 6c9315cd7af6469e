-- `objects::error_register` meets its contract: each arm has its row, and the arms are all rows that begin so (`Families`).
-- Assumes nothing.
use mathlib.Core.Path.{refl}
use native.Mathlib.Omega.{arith}
use Rattle.numbers.specs.Choice.{first}
use Rattle.dictionary.specs.Names.{stretches, with_index}
use Rattle.dictionary.specs.Objects.{meant}
use Rattle.dictionary.proofs.objects.Families.{here, no_row, with_part, last_digits}
use Rattle.dictionary.proofs.objects.error_register.Goals as goal

pub returns-in-3 : goal.returns-in-3
unfolding stretches with_index meant first
returns-in-3 c = here 0x1000 c.in-3.is refl

pub returns-in-1 : goal.returns-in-1
unfolding stretches with_index meant first
returns-in-1 c = here 0x1000 c.in-1.is refl

pub returns-in_default : goal.returns-in_default
unfolding stretches with_part last_digits first
returns-in_default c = no_row 0x10 _ (omega arith) (c.in_default.in_default-own.rest, c.in_default.in_default-own.rest.0.1)
