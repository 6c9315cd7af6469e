-- `roles::telling::source_role` meets its contract: the table holds at the slots between two branches what the role says (`RoleLaws`).
-- Assumes nothing.
use mathlib.Core.Path.{refl}
use Rattle.dictionary.specs.Names.{slot_of}
use Rattle.roles.specs.declared.types.Role.TheVariants as role
use Rattle.roles.proofs.RoleLaws.{on, told_when, held_when, near}
use Rattle.roles.proofs.telling.source_role.Goals as goal

pub returns-then-slot-lt-CONTROL_NUMBER : goal.returns-then-slot-lt-CONTROL_NUMBER
unfolding told_when held_when near slot_of
returns-then-slot-lt-CONTROL_NUMBER c = on role.Source c.requires.0 c.if-slot-lt-CONTROL_NUMBER.true refl refl

pub returns-then-slot-lt-ENABLE_SOURCE : goal.returns-then-slot-lt-ENABLE_SOURCE
unfolding told_when held_when near slot_of
returns-then-slot-lt-ENABLE_SOURCE c = on role.Number c.if-slot-lt-CONTROL_NUMBER.false c.if-slot-lt-ENABLE_SOURCE.true refl refl

pub returns-then-slot-lt-ENABLE_NUMBER : goal.returns-then-slot-lt-ENABLE_NUMBER
unfolding told_when held_when near slot_of
returns-then-slot-lt-ENABLE_NUMBER c = on role.Source c.if-slot-lt-ENABLE_SOURCE.false c.if-slot-lt-ENABLE_NUMBER.true refl refl

pub returns-then-slot-lt-ENABLE_RESPONSE : goal.returns-then-slot-lt-ENABLE_RESPONSE
unfolding told_when held_when near slot_of
returns-then-slot-lt-ENABLE_RESPONSE c = on role.Number c.if-slot-lt-ENABLE_NUMBER.false c.if-slot-lt-ENABLE_RESPONSE.true refl refl

pub returns-then-slot-lt-OVERRIDE_SOURCE : goal.returns-then-slot-lt-OVERRIDE_SOURCE
unfolding told_when held_when near slot_of
returns-then-slot-lt-OVERRIDE_SOURCE c = on role.Switch c.if-slot-lt-ENABLE_RESPONSE.false c.if-slot-lt-OVERRIDE_SOURCE.true refl refl

pub returns-then-slot-lt-OVERRIDE_NUMBER : goal.returns-then-slot-lt-OVERRIDE_NUMBER
unfolding told_when held_when near slot_of
returns-then-slot-lt-OVERRIDE_NUMBER c = on role.Source c.if-slot-lt-OVERRIDE_SOURCE.false c.if-slot-lt-OVERRIDE_NUMBER.true refl refl

pub returns-then-slot-lt-OVERRIDE_RESPONSE : goal.returns-then-slot-lt-OVERRIDE_RESPONSE
unfolding told_when held_when near slot_of
returns-then-slot-lt-OVERRIDE_RESPONSE c = on role.Number c.if-slot-lt-OVERRIDE_NUMBER.false c.if-slot-lt-OVERRIDE_RESPONSE.true refl refl

pub returns : goal.returns
unfolding told_when held_when near slot_of
returns c = on role.Switch c.if-slot-lt-OVERRIDE_RESPONSE.false c.requires.1 refl refl
