-- `fresh::start::logic_start` meets its contract: the table has at the slots between two branches the word that is returned (`StartLaws`).
-- Assumes nothing.
use mathlib.Core.Path.{refl}
use native.Mathlib.Omega.{arith}
use borrow.Author.Rules.{rules}
use Rattle.dictionary.specs.Names.{slot_of}
use Rattle.roles.proofs.StartLaws.{starts_on, starts_past, starts_between, selected, rule_when, starts_when}
use Rattle.roles.proofs.start.logic_start.Goals as goal

pub returns-then-slot-lt-LOGIC_TABLE : goal.returns-then-slot-lt-LOGIC_TABLE
unfolding rule_when starts_when slot_of
returns-then-slot-lt-LOGIC_TABLE c = starts_on 0 c.requires.0 c.if-slot-lt-LOGIC_TABLE.true refl

pub overflow_add-first : goal.overflow_add-first
unfolding slot_of
overflow_add-first c = search rules

pub overflow_mul-result : goal.overflow_mul-result
unfolding slot_of
overflow_mul-result c = search rules

pub overflow_sub-result-then-first-lt-LOGIC_OPERATOR : goal.overflow_sub-result-then-first-lt-LOGIC_OPERATOR
unfolding slot_of
overflow_sub-result-then-first-lt-LOGIC_OPERATOR c = omega arith

pub overflow_add-result : goal.overflow_add-result
unfolding slot_of
overflow_add-result c = search rules

pub overflow_add-result-then-first-lt-LOGIC_OPERATOR : goal.overflow_add-result-then-first-lt-LOGIC_OPERATOR
unfolding slot_of
overflow_add-result-then-first-lt-LOGIC_OPERATOR c = search rules

pub overflow_cast-result : goal.overflow_cast-result
unfolding slot_of
overflow_cast-result c = search rules

pub returns-then-first-lt-LOGIC_OPERATOR : goal.returns-then-first-lt-LOGIC_OPERATOR
unfolding rule_when starts_when slot_of
returns-then-first-lt-LOGIC_OPERATOR c = selected _ _ c.if-slot-lt-LOGIC_TABLE.false c.requires.1 3 c.if-first-lt-LOGIC_OPERATOR.true refl

pub returns-then-first-lt-LOGIC_LAST_OPERATOR : goal.returns-then-first-lt-LOGIC_LAST_OPERATOR
unfolding rule_when starts_when slot_of
returns-then-first-lt-LOGIC_LAST_OPERATOR c = starts_between 1 _ _ c.if-slot-lt-LOGIC_TABLE.false c.requires.1 c.if-first-lt-LOGIC_OPERATOR.false c.if-first-lt-LOGIC_LAST_OPERATOR.true refl

pub returns : goal.returns
unfolding rule_when starts_when slot_of
returns c = starts_past 0 _ _ c.if-slot-lt-LOGIC_TABLE.false c.requires.1 c.if-first-lt-LOGIC_LAST_OPERATOR.false refl
