-- `objects::logic_blocks` meets its contract: each arm has its row, and the arms are all rows that begin so (`Families`).
-- Assumes nothing.
use mathlib.Core.Path.{refl}
use native.Mathlib.Omega.{arith}
use Rattle.numbers.specs.Choice.{first}
use Rattle.dictionary.specs.Names.{stretches, with_index}
use Rattle.dictionary.specs.Objects.{meant}
use Rattle.dictionary.proofs.objects.Families.{here, no_row, with_part, last_digits}
use Rattle.dictionary.proofs.objects.logic_blocks.Goals as goal

pub returns-in-0 : goal.returns-in-0
unfolding stretches with_index meant first
returns-in-0 c = here 0x4000 c.in-0.is refl

pub returns-in-16 : goal.returns-in-16
unfolding stretches with_index meant first
returns-in-16 c = here 0x4000 c.in-16.is refl

pub returns-in-32 : goal.returns-in-32
unfolding stretches with_index meant first
returns-in-32 c = here 0x4000 c.in-32.is refl

pub returns-in_default : goal.returns-in_default
unfolding stretches with_part last_digits first
returns-in_default c = no_row 0x40 _ (omega arith) c.in_default.in_default-own.rest
