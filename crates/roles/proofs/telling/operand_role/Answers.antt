-- `roles::telling::operand_role` meets its contract: the table holds at the slots between two branches what the role says (`RoleLaws`).
-- Assumes nothing.
use mathlib.Core.Path.{refl}
use native.Mathlib.Omega.{arith}
use borrow.Author.Rules.{rules}
use Rattle.dictionary.specs.Names.{slot_of}
use Rattle.roles.specs.declared.types.Role.TheVariants as role
use Rattle.roles.proofs.RoleLaws.{folded_from, folded_below, folded_on, told_when, held_when, near}
use Rattle.roles.proofs.telling.operand_role.Goals as goal

pub overflow_sub-first : goal.overflow_sub-first
unfolding slot_of
overflow_sub-first c = omega arith

pub overflow_add-first : goal.overflow_add-first
unfolding slot_of
overflow_add-first c = search rules

pub returns-then-first-lt-OPERAND_NUMBER : goal.returns-then-first-lt-OPERAND_NUMBER
unfolding told_when held_when near slot_of
returns-then-first-lt-OPERAND_NUMBER c = folded_below role.Source _ _ c.requires.0 c.requires.1 c.if-first-lt-OPERAND_NUMBER.true refl refl

pub returns-then-first-lt-OPERAND_DIGITS : goal.returns-then-first-lt-OPERAND_DIGITS
unfolding told_when held_when near slot_of
returns-then-first-lt-OPERAND_DIGITS c = folded_on role.Number _ _ c.requires.0 c.requires.1 c.if-first-lt-OPERAND_NUMBER.false c.if-first-lt-OPERAND_DIGITS.true refl refl

pub returns-then-first-lt-OPERAND_FROM : goal.returns-then-first-lt-OPERAND_FROM
unfolding told_when held_when near slot_of
returns-then-first-lt-OPERAND_FROM c = folded_on role.Digits _ _ c.requires.0 c.requires.1 c.if-first-lt-OPERAND_DIGITS.false c.if-first-lt-OPERAND_FROM.true refl refl

pub returns-then-first-lt-OPERAND_TO : goal.returns-then-first-lt-OPERAND_TO
unfolding told_when held_when near slot_of
returns-then-first-lt-OPERAND_TO c = folded_on role.MathLow _ _ c.requires.0 c.requires.1 c.if-first-lt-OPERAND_FROM.false c.if-first-lt-OPERAND_TO.true refl refl

pub returns-then-first-lt-OPERAND_GAIN : goal.returns-then-first-lt-OPERAND_GAIN
unfolding told_when held_when near slot_of
returns-then-first-lt-OPERAND_GAIN c = folded_on role.MathHigh _ _ c.requires.0 c.requires.1 c.if-first-lt-OPERAND_TO.false c.if-first-lt-OPERAND_GAIN.true refl refl

pub returns-then-first-lt-MATH_OPERATOR : goal.returns-then-first-lt-MATH_OPERATOR
unfolding told_when held_when near slot_of
returns-then-first-lt-MATH_OPERATOR c = folded_on role.Gain _ _ c.requires.0 c.requires.1 c.if-first-lt-OPERAND_GAIN.false c.if-first-lt-MATH_OPERATOR.true refl refl

pub returns : goal.returns
unfolding told_when held_when near slot_of
returns c = folded_from role.Comparison _ _ c.requires.0 c.requires.1 c.if-first-lt-MATH_OPERATOR.false refl refl
