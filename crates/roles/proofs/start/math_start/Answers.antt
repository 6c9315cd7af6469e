-- `fresh::start::math_start` meets its contract: the table has at the slots between two branches the word that is returned (`StartLaws`).
-- Assumes nothing.
use mathlib.Core.Path.{refl}
use borrow.Author.Rules.{rules}
use Rattle.dictionary.specs.Names.{slot_of}
use Rattle.roles.proofs.StartLaws.{starts_on, starts_below, starts_past, starts_between, rule_when, starts_when}
use Rattle.roles.proofs.start.math_start.Goals as goal

pub returns-then-slot-lt-MATH_TO : goal.returns-then-slot-lt-MATH_TO
unfolding rule_when starts_when slot_of
returns-then-slot-lt-MATH_TO c = starts_on 0 c.requires.0 c.if-slot-lt-MATH_TO.true refl

pub returns-then-slot-lt-MATH_DIGITS : goal.returns-then-slot-lt-MATH_DIGITS
unfolding rule_when starts_when slot_of
returns-then-slot-lt-MATH_DIGITS c = starts_on 1000 c.if-slot-lt-MATH_TO.false c.if-slot-lt-MATH_DIGITS.true refl

pub returns-then-slot-lt-OPERAND_SOURCE : goal.returns-then-slot-lt-OPERAND_SOURCE
unfolding rule_when starts_when slot_of
returns-then-slot-lt-OPERAND_SOURCE c = starts_on 0 c.if-slot-lt-MATH_DIGITS.false c.if-slot-lt-OPERAND_SOURCE.true refl

pub overflow_add-first : goal.overflow_add-first
unfolding slot_of
overflow_add-first c = search rules

pub returns-then-first-lt-OPERAND_TO : goal.returns-then-first-lt-OPERAND_TO
unfolding rule_when starts_when slot_of
returns-then-first-lt-OPERAND_TO c = starts_below 0 _ _ c.if-slot-lt-OPERAND_SOURCE.false c.requires.1 c.if-first-lt-OPERAND_TO.true refl

pub returns-then-first-lt-OPERAND_GAIN : goal.returns-then-first-lt-OPERAND_GAIN
unfolding rule_when starts_when slot_of
returns-then-first-lt-OPERAND_GAIN c = starts_between 1000 _ _ c.if-slot-lt-OPERAND_SOURCE.false c.requires.1 c.if-first-lt-OPERAND_TO.false c.if-first-lt-OPERAND_GAIN.true refl

pub returns-then-first-lt-MATH_OPERATOR : goal.returns-then-first-lt-MATH_OPERATOR
unfolding rule_when starts_when slot_of
returns-then-first-lt-MATH_OPERATOR c = starts_between 100 _ _ c.if-slot-lt-OPERAND_SOURCE.false c.requires.1 c.if-first-lt-OPERAND_GAIN.false c.if-first-lt-MATH_OPERATOR.true refl

pub returns : goal.returns
unfolding rule_when starts_when slot_of
returns c = starts_past 0 _ _ c.if-slot-lt-OPERAND_SOURCE.false c.requires.1 c.if-first-lt-MATH_OPERATOR.false refl
