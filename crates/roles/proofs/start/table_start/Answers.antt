-- `fresh::start::table_start` meets its contract: the table has at the slots between two branches the word that is returned (`StartLaws`).
-- Assumes nothing.
use mathlib.Core.Path.{refl}
use native.Mathlib.Omega.{arith}
use borrow.Author.Rules.{rules}
use Rattle.dictionary.specs.Names.{slot_of}
use Rattle.dictionary.proofs.Sieve.{le_lt}
use Rattle.roles.proofs.StartLaws.{starts_below, starts_between, points, rule_when, starts_when}
use Rattle.roles.proofs.start.table_start.Goals as goal

pub overflow_sub-first : goal.overflow_sub-first
unfolding slot_of
overflow_sub-first c = omega arith

pub overflow_add-first : goal.overflow_add-first
unfolding slot_of
overflow_add-first c = search rules

pub returns-then-first-ge-TABLE_X : goal.returns-then-first-ge-TABLE_X
unfolding rule_when starts_when slot_of
returns-then-first-ge-TABLE_X c = points _ _ c.requires.0 c.requires.1 (slot_of 0x3015 1) 11 100 c.if-first-ge-TABLE_X.true refl

pub returns-then-first-gt-TABLE_RESPONSE : goal.returns-then-first-gt-TABLE_RESPONSE
unfolding rule_when starts_when slot_of
returns-then-first-gt-TABLE_RESPONSE c = starts_between 1 _ _ c.requires.0 c.requires.1 c.if-first-gt-TABLE_RESPONSE.true c.if-first-ge-TABLE_X.false refl

pub returns : goal.returns
unfolding rule_when starts_when slot_of
returns c = starts_below 0 _ _ c.requires.0 c.requires.1 (le_lt c.if-first-gt-TABLE_RESPONSE.false) refl
