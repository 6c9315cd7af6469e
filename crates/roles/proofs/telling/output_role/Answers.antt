-- `roles::telling::output_role` meets its contract: the table holds at the slots between two branches what the role says (`RoleLaws`).
-- Assumes nothing.
use mathlib.Core.Path.{refl}
use Rattle.dictionary.specs.Names.{slot_of}
use Rattle.roles.specs.declared.types.Role.TheVariants as role
use Rattle.roles.proofs.RoleLaws.{on, told_when, held_when, near}
use Rattle.roles.proofs.telling.output_role.Goals as goal

pub returns-then-slot-ge-FAULT_FV : goal.returns-then-slot-ge-FAULT_FV
unfolding told_when held_when near slot_of
returns-then-slot-ge-FAULT_FV c = on role.Current c.if-slot-ge-FAULT_FV.true c.requires.1 refl refl

pub returns-then-slot-lt-OUTPUT_FV1 : goal.returns-then-slot-lt-OUTPUT_FV1
unfolding told_when held_when near slot_of
returns-then-slot-lt-OUTPUT_FV1 c = on role.PvLow c.requires.0 c.if-slot-lt-OUTPUT_FV1.true refl refl

pub returns-then-slot-lt-OUTPUT_PV2 : goal.returns-then-slot-lt-OUTPUT_PV2
unfolding told_when held_when near slot_of
returns-then-slot-lt-OUTPUT_PV2 c = on role.FvLow c.if-slot-lt-OUTPUT_FV1.false c.if-slot-lt-OUTPUT_PV2.true refl refl

pub returns-then-slot-lt-OUTPUT_FV2 : goal.returns-then-slot-lt-OUTPUT_FV2
unfolding told_when held_when near slot_of
returns-then-slot-lt-OUTPUT_FV2 c = on role.PvHigh c.if-slot-lt-OUTPUT_PV2.false c.if-slot-lt-OUTPUT_FV2.true refl refl

pub returns : goal.returns
unfolding told_when held_when near slot_of
returns c = on role.FvHigh c.if-slot-lt-OUTPUT_FV2.false c.if-slot-ge-FAULT_FV.false refl refl
