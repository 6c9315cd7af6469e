-- `objects::input_settings` meets its contract: each arm has its row, and the arms are all rows that begin so (`Families`).
-- Assumes nothing.
use mathlib.Core.Path.{refl}
use native.Mathlib.Omega.{arith}
use Rattle.numbers.specs.Choice.{first}
use Rattle.dictionary.specs.Names.{stretches, with_index}
use Rattle.dictionary.specs.Objects.{meant}
use Rattle.dictionary.proofs.objects.Families.{here, no_row, with_part, last_digits}
use Rattle.dictionary.proofs.objects.input_settings.Goals as goal

pub returns-in-16 : goal.returns-in-16
unfolding stretches with_index meant first
returns-in-16 c = here 0x2100 c.in-16.is refl

pub returns-in-17 : goal.returns-in-17
unfolding stretches with_index meant first
returns-in-17 c = here 0x2100 c.in-17.is refl

pub returns-in-18 : goal.returns-in-18
unfolding stretches with_index meant first
returns-in-18 c = here 0x2100 c.in-18.is refl

pub returns-in_default : goal.returns-in_default
unfolding stretches with_part last_digits first
returns-in_default c = no_row 0x21 _ (omega arith) c.in_default.in_default-own.rest
