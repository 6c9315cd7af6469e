-- `objects::tables` meets its contract: z counts from 1, and there is no row below 3010h and from 3070h on (`Families`).
-- Assumes nothing.
use mathlib.Core.Path.{refl}
use native.Mathlib.Omega.{arith}
use Rattle.dictionary.specs.Names.{stretches}
use Rattle.dictionary.proofs.objects.Families.{moved, no_row_between, all_outside}
use Rattle.dictionary.proofs.objects.tables.Goals as goal

pub returns-then-z-lt1 : goal.returns-then-z-lt1
unfolding all_outside stretches
returns-then-z-lt1 c = no_row_between 0x3000 0x3010 (omega arith) (omega arith) refl

pub returns-then-z-gt6 : goal.returns-then-z-gt6
unfolding all_outside stretches
returns-then-z-gt6 c = no_row_between 0x3070 0x3100 (omega arith) (omega arith) refl

pub returns : goal.returns
returns c = moved (omega arith) c.table_objects.ensures
