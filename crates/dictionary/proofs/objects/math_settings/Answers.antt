-- `objects::math_settings` meets its contract: each arm has its row, moved on from the first block's, and the arms are all rows of a block (`Families`).
-- Assumes nothing.
use mathlib.Core.Path.{refl}
use native.Mathlib.Omega.{arith}
use Rattle.numbers.specs.Choice.{first}
use Rattle.dictionary.specs.Names.{stretches, with_index, writable, slot_of}
use Rattle.dictionary.specs.Objects.{meant}
use Rattle.dictionary.proofs.objects.Families.{in_block, not_in_block, shifted, with_part, last_digits, maths_alike}
use Rattle.dictionary.proofs.objects.math_settings.Goals as goal

pub returns-in-0 : goal.returns-in-0
unfolding stretches with_index meant shifted writable slot_of first
returns-in-0 c = in_block 4 256 0x46 _ maths_alike _ 0x4600 (omega arith) (omega arith) (omega arith) c.in-0.is refl

pub returns-in-1 : goal.returns-in-1
unfolding stretches with_index meant shifted writable slot_of first
returns-in-1 c = in_block 4 256 0x46 _ maths_alike _ 0x4600 (omega arith) (omega arith) (omega arith) c.in-1.is refl

pub returns-in-2 : goal.returns-in-2
unfolding stretches with_index meant shifted writable slot_of first
returns-in-2 c = in_block 4 256 0x46 _ maths_alike _ 0x4600 (omega arith) (omega arith) (omega arith) c.in-2.is refl

pub returns-in-32 : goal.returns-in-32
unfolding stretches with_index meant shifted writable slot_of first
returns-in-32 c = in_block 4 256 0x46 _ maths_alike _ 0x4600 (omega arith) (omega arith) (omega arith) c.in-32.is refl

pub returns-in-34 : goal.returns-in-34
unfolding stretches with_index meant shifted writable slot_of first
returns-in-34 c = in_block 4 256 0x46 _ maths_alike _ 0x4600 (omega arith) (omega arith) (omega arith) c.in-34.is refl

pub returns-in-64 : goal.returns-in-64
unfolding stretches with_index meant shifted writable slot_of first
returns-in-64 c = in_block 4 256 0x46 _ maths_alike _ 0x4600 (omega arith) (omega arith) (omega arith) c.in-64.is refl

pub returns-in-80 : goal.returns-in-80
unfolding stretches with_index meant shifted writable slot_of first
returns-in-80 c = in_block 4 256 0x46 _ maths_alike _ 0x4600 (omega arith) (omega arith) (omega arith) c.in-80.is refl

pub returns-in_default : goal.returns-in_default
unfolding stretches with_part last_digits first
returns-in_default c = not_in_block 4 256 0x46 _ maths_alike _ 0x4600 (omega arith) (omega arith) (omega arith) (omega arith) c.in_default.in_default-own.rest
