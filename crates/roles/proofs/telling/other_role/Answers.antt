-- `roles::telling::other_role` meets its contract: the table holds at the slots between two branches what the role says (`RoleLaws`).
-- Assumes nothing.
use mathlib.Core.Path.{refl}
use Rattle.dictionary.specs.Names.{slot_of}
use Rattle.roles.specs.declared.types.Role.TheVariants as role
use Rattle.roles.proofs.RoleLaws.{on, past_all, ends_at, told_when, held_when, near}
use Rattle.roles.proofs.telling.other_role.Goals as goal

pub returns-then-slot-lt-ERRORS_KEPT : goal.returns-then-slot-lt-ERRORS_KEPT
unfolding told_when held_when near slot_of
returns-then-slot-lt-ERRORS_KEPT c = on role.Whole c.requires c.if-slot-lt-ERRORS_KEPT.true refl refl

pub returns-then-slot-lt-SAMPLE : goal.returns-then-slot-lt-SAMPLE
unfolding told_when held_when near slot_of
returns-then-slot-lt-SAMPLE c = on role.Byte c.if-slot-lt-ERRORS_KEPT.false c.if-slot-lt-SAMPLE.true refl refl

pub returns-then-slot-lt-LOGIC_SELECTED : goal.returns-then-slot-lt-LOGIC_SELECTED
unfolding told_when held_when near slot_of
returns-then-slot-lt-LOGIC_SELECTED c = on role.Whole c.if-slot-lt-SAMPLE.false c.if-slot-lt-LOGIC_SELECTED.true refl refl

pub returns-then-slot-lt-LOGIC_VALUE : goal.returns-then-slot-lt-LOGIC_VALUE
unfolding told_when held_when near slot_of
returns-then-slot-lt-LOGIC_VALUE c = on role.Byte c.if-slot-lt-LOGIC_SELECTED.false c.if-slot-lt-LOGIC_VALUE.true refl refl

pub returns-then-slot-lt-MATH_VALUE : goal.returns-then-slot-lt-MATH_VALUE
unfolding told_when held_when near slot_of
returns-then-slot-lt-MATH_VALUE c = on role.Whole c.if-slot-lt-LOGIC_VALUE.false c.if-slot-lt-MATH_VALUE.true refl refl

pub returns-then-slot-lt-COMMAND : goal.returns-then-slot-lt-COMMAND
unfolding told_when held_when near slot_of
returns-then-slot-lt-COMMAND c = on role.Real c.if-slot-lt-MATH_VALUE.false c.if-slot-lt-COMMAND.true refl refl

pub returns-then-slot-lt-FIXED : goal.returns-then-slot-lt-FIXED
unfolding told_when held_when near slot_of
returns-then-slot-lt-FIXED c = on role.Whole c.if-slot-lt-COMMAND.false c.if-slot-lt-FIXED.true refl refl

pub returns-then-slot-lt-ERRORS : goal.returns-then-slot-lt-ERRORS
unfolding told_when held_when near slot_of
returns-then-slot-lt-ERRORS c = on role.Real c.if-slot-lt-FIXED.false c.if-slot-lt-ERRORS.true refl refl

pub returns-then-slot-lt-SIGNALS : goal.returns-then-slot-lt-SIGNALS
unfolding told_when held_when near slot_of
returns-then-slot-lt-SIGNALS c = on role.Long c.if-slot-lt-ERRORS.false c.if-slot-lt-SIGNALS.true refl refl

pub returns : goal.returns
unfolding ends_at
returns c = past_all c.if-slot-lt-SIGNALS.false refl
