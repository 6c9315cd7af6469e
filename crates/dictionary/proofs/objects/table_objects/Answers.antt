-- `objects::table_objects` meets its contract: each arm has its row, moved on from the first block's, and the arms are all rows of a block (`Families`).
-- Assumes nothing.
use mathlib.Core.Path.{refl}
use native.Mathlib.Omega.{arith}
use Rattle.numbers.specs.Choice.{first}
use Rattle.dictionary.specs.Names.{stretches, with_index, writable, slot_of}
use Rattle.dictionary.specs.Objects.{meant}
use Rattle.dictionary.proofs.objects.Families.{in_block, not_in_block, shifted, with_part, last_digits, tables_alike}
use Rattle.dictionary.proofs.objects.table_objects.Goals as goal

pub returns-in-0 : goal.returns-in-0
unfolding stretches with_index meant shifted writable slot_of first
returns-in-0 c = in_block 6 16 0x301 _ tables_alike _ 0x3010 (omega arith) (omega arith) (omega arith) c.in-0.is refl

pub returns-in-1 : goal.returns-in-1
unfolding stretches with_index meant shifted writable slot_of first
returns-in-1 c = in_block 6 16 0x301 _ tables_alike _ 0x3010 (omega arith) (omega arith) (omega arith) c.in-1.is refl

pub returns-in-2 : goal.returns-in-2
unfolding stretches with_index meant shifted writable slot_of first
returns-in-2 c = in_block 6 16 0x301 _ tables_alike _ 0x3010 (omega arith) (omega arith) (omega arith) c.in-2.is refl

pub returns-in-3 : goal.returns-in-3
unfolding stretches with_index meant shifted writable slot_of first
returns-in-3 c = in_block 6 16 0x301 _ tables_alike _ 0x3010 (omega arith) (omega arith) (omega arith) c.in-3.is refl

pub returns-in-4 : goal.returns-in-4
unfolding stretches with_index meant shifted writable slot_of first
returns-in-4 c = in_block 6 16 0x301 _ tables_alike _ 0x3010 (omega arith) (omega arith) (omega arith) c.in-4.is refl

pub returns-in-5 : goal.returns-in-5
unfolding stretches with_index meant shifted writable slot_of first
returns-in-5 c = in_block 6 16 0x301 _ tables_alike _ 0x3010 (omega arith) (omega arith) (omega arith) c.in-5.is refl

pub returns-in-6 : goal.returns-in-6
unfolding stretches with_index meant shifted writable slot_of first
returns-in-6 c = in_block 6 16 0x301 _ tables_alike _ 0x3010 (omega arith) (omega arith) (omega arith) c.in-6.is refl

pub returns-in-7 : goal.returns-in-7
unfolding stretches with_index meant shifted writable slot_of first
returns-in-7 c = in_block 6 16 0x301 _ tables_alike _ 0x3010 (omega arith) (omega arith) (omega arith) c.in-7.is refl

pub returns-in_default : goal.returns-in_default
unfolding stretches with_part last_digits first
returns-in_default c = not_in_block 6 16 0x301 _ tables_alike _ 0x3010 (omega arith) (omega arith) (omega arith) (omega arith) c.in_default.in_default-own.rest
