-- `roles::telling::table_role` meets its contract: the table holds at the slots between two branches what the role says (`RoleLaws`).
-- Assumes nothing.
use mathlib.Core.Path.{refl}
use native.Mathlib.Omega.{arith}
use borrow.Author.Rules.{rules}
use Rattle.dictionary.specs.Names.{slot_of}
use Rattle.dictionary.proofs.Sieve.{le_lt}
use Rattle.roles.specs.declared.types.Role.TheVariants as role
use Rattle.roles.proofs.RoleLaws.{folded_from, folded_below, folded_on, told_when, held_when, near}
use Rattle.roles.proofs.telling.table_role.Goals as goal

pub overflow_sub-first : goal.overflow_sub-first
unfolding slot_of
overflow_sub-first c = omega arith

pub overflow_add-first : goal.overflow_add-first
unfolding slot_of
overflow_add-first c = search rules

pub returns-then-first-ge-TABLE_Y : goal.returns-then-first-ge-TABLE_Y
unfolding told_when held_when near slot_of
returns-then-first-ge-TABLE_Y c = folded_from role.Whole _ _ c.requires.0 c.requires.1 c.if-first-ge-TABLE_Y.true refl refl

pub returns-then-first-ge-TABLE_LAST_X : goal.returns-then-first-ge-TABLE_LAST_X
unfolding told_when held_when near slot_of
returns-then-first-ge-TABLE_LAST_X c = folded_on role.LastX _ _ c.requires.0 c.requires.1 c.if-first-ge-TABLE_LAST_X.true c.if-first-ge-TABLE_Y.false refl refl

pub returns-then-first-gt-TABLE_X : goal.returns-then-first-gt-TABLE_X
unfolding told_when held_when near slot_of
returns-then-first-gt-TABLE_X c = folded_on role.InnerX _ _ c.requires.0 c.requires.1 c.if-first-gt-TABLE_X.true c.if-first-ge-TABLE_LAST_X.false refl refl

pub returns-then-first-ge-TABLE_X : goal.returns-then-first-ge-TABLE_X
unfolding told_when held_when near slot_of
returns-then-first-ge-TABLE_X c = folded_on role.FirstX _ _ c.requires.0 c.requires.1 c.if-first-ge-TABLE_X.true (le_lt c.if-first-gt-TABLE_X.false) refl refl

pub returns-then-first-gt-TABLE_RESPONSE : goal.returns-then-first-gt-TABLE_RESPONSE
unfolding told_when held_when near slot_of
returns-then-first-gt-TABLE_RESPONSE c = folded_on role.Response _ _ c.requires.0 c.requires.1 c.if-first-gt-TABLE_RESPONSE.true c.if-first-ge-TABLE_X.false refl refl

pub returns-then-first-ge-TABLE_RESPONSE : goal.returns-then-first-ge-TABLE_RESPONSE
unfolding told_when held_when near slot_of
returns-then-first-ge-TABLE_RESPONSE c = folded_on role.Axis _ _ c.requires.0 c.requires.1 c.if-first-ge-TABLE_RESPONSE.true (le_lt c.if-first-gt-TABLE_RESPONSE.false) refl refl

pub returns-then-first-ge-TABLE_X_DIGITS : goal.returns-then-first-ge-TABLE_X_DIGITS
unfolding told_when held_when near slot_of
returns-then-first-ge-TABLE_X_DIGITS c = folded_on role.Digits _ _ c.requires.0 c.requires.1 c.if-first-ge-TABLE_X_DIGITS.true c.if-first-ge-TABLE_RESPONSE.false refl refl

pub returns-then-first-ge-TABLE_NUMBER : goal.returns-then-first-ge-TABLE_NUMBER
unfolding told_when held_when near slot_of
returns-then-first-ge-TABLE_NUMBER c = folded_on role.Number _ _ c.requires.0 c.requires.1 c.if-first-ge-TABLE_NUMBER.true c.if-first-ge-TABLE_X_DIGITS.false refl refl

pub returns : goal.returns
unfolding told_when held_when near slot_of
returns c = folded_below role.Source _ _ c.requires.0 c.requires.1 c.if-first-ge-TABLE_NUMBER.false refl refl
