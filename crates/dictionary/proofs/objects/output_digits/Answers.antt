-- `objects::output_digits` meets its contract: each arm has its row, and the arms are all rows that begin so (`Families`).
-- Assumes nothing.
use mathlib.Core.Path.{refl}
use native.Mathlib.Omega.{arith}
use Rattle.numbers.specs.Choice.{first}
use Rattle.dictionary.specs.Names.{stretches, with_index}
use Rattle.dictionary.specs.Objects.{meant}
use Rattle.dictionary.proofs.objects.Families.{here, no_row, with_part, last_digits}
use Rattle.dictionary.proofs.objects.output_digits.Goals as goal

pub returns-in-2 : goal.returns-in-2
unfolding stretches with_index meant first
returns-in-2 c = here 0x6300 c.in-2.is refl

pub returns-in-64 : goal.returns-in-64
unfolding stretches with_index meant first
returns-in-64 c = here 0x6300 c.in-64.is refl

pub returns-in_default : goal.returns-in_default
unfolding stretches with_part last_digits first
returns-in_default c = no_row 0x63 _ (omega arith) c.in_default.in_default-own.rest
