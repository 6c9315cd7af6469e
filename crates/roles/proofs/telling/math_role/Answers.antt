-- `roles::telling::math_role` meets its contract: the table holds at the slots between two branches what the role says (`RoleLaws`).
-- Assumes nothing.
use mathlib.Core.Path.{refl}
use Rattle.dictionary.specs.Names.{slot_of}
use Rattle.roles.specs.declared.types.Role.TheVariants as role
use Rattle.roles.proofs.RoleLaws.{on, told_when, held_when, near}
use Rattle.roles.proofs.telling.math_role.Goals as goal

pub returns-then-slot-lt-MATH_FROM : goal.returns-then-slot-lt-MATH_FROM
unfolding told_when held_when near slot_of
returns-then-slot-lt-MATH_FROM c = on role.Switch c.requires.0 c.if-slot-lt-MATH_FROM.true refl refl

pub returns-then-slot-lt-MATH_TO : goal.returns-then-slot-lt-MATH_TO
unfolding told_when held_when near slot_of
returns-then-slot-lt-MATH_TO c = on role.MathLow c.if-slot-lt-MATH_FROM.false c.if-slot-lt-MATH_TO.true refl refl

pub returns-then-slot-lt-MATH_DIGITS : goal.returns-then-slot-lt-MATH_DIGITS
unfolding told_when held_when near slot_of
returns-then-slot-lt-MATH_DIGITS c = on role.MathHigh c.if-slot-lt-MATH_TO.false c.if-slot-lt-MATH_DIGITS.true refl refl

pub returns-then-slot-lt-OPERAND_SOURCE : goal.returns-then-slot-lt-OPERAND_SOURCE
unfolding told_when held_when near slot_of
returns-then-slot-lt-OPERAND_SOURCE c = on role.Digits c.if-slot-lt-MATH_DIGITS.false c.if-slot-lt-OPERAND_SOURCE.true refl refl

pub operand_role-requires : goal.operand_role-requires
unfolding slot_of
operand_role-requires c = (c.if-slot-lt-OPERAND_SOURCE.false, c.requires.1)
