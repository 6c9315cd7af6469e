-- `objects::output_settings` meets its contract: each arm has its row, and the arms are all rows that begin so (`Families`).
-- Assumes nothing.
use mathlib.Core.Path.{refl}
use native.Mathlib.Omega.{arith}
use Rattle.numbers.specs.Choice.{first}
use Rattle.dictionary.specs.Names.{stretches, with_index}
use Rattle.dictionary.specs.Objects.{meant}
use Rattle.dictionary.proofs.objects.Families.{here, no_row, with_part, last_digits}
use Rattle.dictionary.proofs.objects.output_settings.Goals as goal

pub returns-in-0 : goal.returns-in-0
unfolding stretches with_index meant first
returns-in-0 c = here 0x2300 c.in-0.is refl

pub returns-in-48 : goal.returns-in-48
unfolding stretches with_index meant first
returns-in-48 c = here 0x2300 c.in-48.is refl

pub returns-in-49 : goal.returns-in-49
unfolding stretches with_index meant first
returns-in-49 c = here 0x2300 c.in-49.is refl

pub returns-in-64 : goal.returns-in-64
unfolding stretches with_index meant first
returns-in-64 c = here 0x2300 c.in-64.is refl

pub returns-in-65 : goal.returns-in-65
unfolding stretches with_index meant first
returns-in-65 c = here 0x2300 c.in-65.is refl

pub returns-in-80 : goal.returns-in-80
unfolding stretches with_index meant first
returns-in-80 c = here 0x2300 c.in-80.is refl

pub returns-in-81 : goal.returns-in-81
unfolding stretches with_index meant first
returns-in-81 c = here 0x2300 c.in-81.is refl

pub returns-in-82 : goal.returns-in-82
unfolding stretches with_index meant first
returns-in-82 c = here 0x2300 c.in-82.is refl

pub returns-in-96 : goal.returns-in-96
unfolding stretches with_index meant first
returns-in-96 c = here 0x2300 c.in-96.is refl

pub returns-in-97 : goal.returns-in-97
unfolding stretches with_index meant first
returns-in-97 c = here 0x2300 c.in-97.is refl

pub returns-in-98 : goal.returns-in-98
unfolding stretches with_index meant first
returns-in-98 c = here 0x2300 c.in-98.is refl

pub returns-in_default : goal.returns-in_default
unfolding stretches with_part last_digits first
returns-in_default c = no_row 0x23 _ (omega arith) c.in_default.in_default-own.rest
