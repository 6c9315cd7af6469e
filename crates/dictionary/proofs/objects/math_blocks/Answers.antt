-- `objects::math_blocks` meets its contract: each arm has its row, and the arms are all rows that begin so (`Families`).
-- Assumes nothing.
use mathlib.Core.Path.{refl}
use native.Mathlib.Omega.{arith}
use Rattle.numbers.specs.Choice.{first}
use Rattle.dictionary.specs.Names.{stretches, with_index}
use Rattle.dictionary.specs.Objects.{meant}
use Rattle.dictionary.proofs.objects.Families.{here, no_row, with_part, last_digits}
use Rattle.dictionary.proofs.objects.math_blocks.Goals as goal

pub returns-in-0 : goal.returns-in-0
unfolding stretches with_index meant first
returns-in-0 c = here 0x4500 c.in-0.is refl

pub returns-in-33 : goal.returns-in-33
unfolding stretches with_index meant first
returns-in-33 c = here 0x4500 c.in-33.is refl

pub returns-in-35 : goal.returns-in-35
unfolding stretches with_index meant first
returns-in-35 c = here 0x4500 c.in-35.is refl

pub returns-in-50 : goal.returns-in-50
unfolding stretches with_index meant first
returns-in-50 c = here 0x4500 c.in-50.is refl

pub returns-in-48 : goal.returns-in-48
unfolding stretches with_index meant first
returns-in-48 c = here 0x4500 c.in-48.is refl

pub returns-in_default : goal.returns-in_default
unfolding stretches with_part last_digits first
returns-in_default c = no_row 0x45 _ (omega arith) c.in_default.in_default-own.rest
