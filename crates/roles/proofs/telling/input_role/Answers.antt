-- `roles::telling::input_role` meets its contract: the table holds at the slots between two branches what the role says (`RoleLaws`).
-- Assumes nothing.
use mathlib.Core.Path.{refl}
use Rattle.dictionary.specs.Names.{slot_of}
use Rattle.roles.specs.declared.types.Role.TheVariants as role
use Rattle.roles.proofs.RoleLaws.{on, told_when, held_when, near}
use Rattle.roles.proofs.telling.input_role.Goals as goal

pub returns-then-slot-lt-INPUT_DIGITS : goal.returns-then-slot-lt-INPUT_DIGITS
unfolding told_when held_when near slot_of
returns-then-slot-lt-INPUT_DIGITS c = on role.Real c.requires.0 c.if-slot-lt-INPUT_DIGITS.true refl refl

pub returns-then-slot-lt-FAULT_MODE : goal.returns-then-slot-lt-FAULT_MODE
unfolding told_when held_when near slot_of
returns-then-slot-lt-FAULT_MODE c = on role.Digits c.if-slot-lt-INPUT_DIGITS.false c.if-slot-lt-FAULT_MODE.true refl refl

pub returns-then-slot-lt-INPUT_FV1 : goal.returns-then-slot-lt-INPUT_FV1
unfolding told_when held_when near slot_of
returns-then-slot-lt-INPUT_FV1 c = on role.Switch c.if-slot-lt-FAULT_MODE.false c.if-slot-lt-INPUT_FV1.true refl refl

pub returns-then-slot-lt-INPUT_PV1 : goal.returns-then-slot-lt-INPUT_PV1
unfolding told_when held_when near slot_of
returns-then-slot-lt-INPUT_PV1 c = on role.LineLow c.if-slot-lt-INPUT_FV1.false c.if-slot-lt-INPUT_PV1.true refl refl

pub returns-then-slot-lt-INPUT_FV2 : goal.returns-then-slot-lt-INPUT_FV2
unfolding told_when held_when near slot_of
returns-then-slot-lt-INPUT_FV2 c = on role.Whole c.if-slot-lt-INPUT_PV1.false c.if-slot-lt-INPUT_FV2.true refl refl

pub returns-then-slot-lt-INPUT_PV2 : goal.returns-then-slot-lt-INPUT_PV2
unfolding told_when held_when near slot_of
returns-then-slot-lt-INPUT_PV2 c = on role.LineHigh c.if-slot-lt-INPUT_FV2.false c.if-slot-lt-INPUT_PV2.true refl refl

pub returns-then-slot-lt-SPAN_START : goal.returns-then-slot-lt-SPAN_START
unfolding told_when held_when near slot_of
returns-then-slot-lt-SPAN_START c = on role.Whole c.if-slot-lt-INPUT_PV2.false c.if-slot-lt-SPAN_START.true refl refl

pub returns-then-slot-lt-SPAN_END : goal.returns-then-slot-lt-SPAN_END
unfolding told_when held_when near slot_of
returns-then-slot-lt-SPAN_END c = on role.SpanLow c.if-slot-lt-SPAN_START.false c.if-slot-lt-SPAN_END.true refl refl

pub returns : goal.returns
unfolding told_when held_when near slot_of
returns c = on role.SpanHigh c.if-slot-lt-SPAN_END.false c.requires.1 refl refl
