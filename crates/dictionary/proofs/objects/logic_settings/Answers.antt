-- `objects::logic_settings` meets its contract: each arm has its row, moved on from the first block's, and the arms are all rows of a block (`Families`).
-- Assumes nothing.
use mathlib.Core.Path.{refl}
use native.Mathlib.Omega.{arith}
use Rattle.numbers.specs.Choice.{first}
use Rattle.dictionary.specs.Names.{stretches, with_index, writable, slot_of}
use Rattle.dictionary.specs.Objects.{meant}
use Rattle.dictionary.proofs.objects.Families.{in_block, not_in_block, shifted, with_part, last_digits, logics_alike}
use Rattle.dictionary.proofs.objects.logic_settings.Goals as goal

pub returns-in-1 : goal.returns-in-1
unfolding stretches with_index meant shifted writable slot_of first
returns-in-1 c = in_block 2 256 0x41 _ logics_alike _ 0x4100 (omega arith) (omega arith) (omega arith) c.in-1.is refl

pub returns-in-2 : goal.returns-in-2
unfolding stretches with_index meant shifted writable slot_of first
returns-in-2 c = in_block 2 256 0x41 _ logics_alike _ 0x4100 (omega arith) (omega arith) (omega arith) c.in-2.is refl

pub returns-in-17 : goal.returns-in-17
unfolding stretches with_index meant shifted writable slot_of first
returns-in-17 c = in_block 2 256 0x41 _ logics_alike _ 0x4100 (omega arith) (omega arith) (omega arith) c.in-17.is refl

pub returns-in-18 : goal.returns-in-18
unfolding stretches with_index meant shifted writable slot_of first
returns-in-18 c = in_block 2 256 0x41 _ logics_alike _ 0x4100 (omega arith) (omega arith) (omega arith) c.in-18.is refl

pub returns-in-19 : goal.returns-in-19
unfolding stretches with_index meant shifted writable slot_of first
returns-in-19 c = in_block 2 256 0x41 _ logics_alike _ 0x4100 (omega arith) (omega arith) (omega arith) c.in-19.is refl

pub returns-in-33 : goal.returns-in-33
unfolding stretches with_index meant shifted writable slot_of first
returns-in-33 c = in_block 2 256 0x41 _ logics_alike _ 0x4100 (omega arith) (omega arith) (omega arith) c.in-33.is refl

pub returns-in-34 : goal.returns-in-34
unfolding stretches with_index meant shifted writable slot_of first
returns-in-34 c = in_block 2 256 0x41 _ logics_alike _ 0x4100 (omega arith) (omega arith) (omega arith) c.in-34.is refl

pub returns-in-35 : goal.returns-in-35
unfolding stretches with_index meant shifted writable slot_of first
returns-in-35 c = in_block 2 256 0x41 _ logics_alike _ 0x4100 (omega arith) (omega arith) (omega arith) c.in-35.is refl

pub returns-in-49 : goal.returns-in-49
unfolding stretches with_index meant shifted writable slot_of first
returns-in-49 c = in_block 2 256 0x41 _ logics_alike _ 0x4100 (omega arith) (omega arith) (omega arith) c.in-49.is refl

pub returns-in-50 : goal.returns-in-50
unfolding stretches with_index meant shifted writable slot_of first
returns-in-50 c = in_block 2 256 0x41 _ logics_alike _ 0x4100 (omega arith) (omega arith) (omega arith) c.in-50.is refl

pub returns-in-51 : goal.returns-in-51
unfolding stretches with_index meant shifted writable slot_of first
returns-in-51 c = in_block 2 256 0x41 _ logics_alike _ 0x4100 (omega arith) (omega arith) (omega arith) c.in-51.is refl

pub returns-in_default : goal.returns-in_default
unfolding stretches with_part last_digits first
returns-in_default c = not_in_block 2 256 0x41 _ logics_alike _ 0x4100 (omega arith) (omega arith) (omega arith) (omega arith) c.in_default.in_default-own.rest
