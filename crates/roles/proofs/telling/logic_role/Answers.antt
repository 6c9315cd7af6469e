-- `roles::telling::logic_role` meets its contract: the table holds at the slots between two branches what the role says (`RoleLaws`).
-- Assumes nothing.
use mathlib.Core.Path.{refl}
use native.Mathlib.Omega.{arith}
use Rattle.dictionary.specs.Names.{slot_of}
use Rattle.roles.specs.declared.types.Role.TheVariants as role
use Rattle.roles.proofs.RoleLaws.{on, fifth, folded_below, folded_on, folded_twice, told_when, held_when, near}
use Rattle.roles.proofs.telling.logic_role.Goals as goal

pub returns-then-slot-lt-LOGIC_TABLE : goal.returns-then-slot-lt-LOGIC_TABLE
unfolding told_when held_when near slot_of
returns-then-slot-lt-LOGIC_TABLE c = on role.Switch c.requires.0 c.if-slot-lt-LOGIC_TABLE.true refl refl

pub returns-then-first-lt-LOGIC_OPERATOR : goal.returns-then-first-lt-LOGIC_OPERATOR
unfolding told_when held_when near slot_of
returns-then-first-lt-LOGIC_OPERATOR c = folded_below role.Table _ _ c.if-slot-lt-LOGIC_TABLE.false c.requires.1 c.if-first-lt-LOGIC_OPERATOR.true refl refl

pub returns-then-first-lt-CONDITION : goal.returns-then-first-lt-CONDITION
unfolding told_when held_when near slot_of
returns-then-first-lt-CONDITION c = folded_on role.Operator _ _ c.if-slot-lt-LOGIC_TABLE.false c.requires.1 c.if-first-lt-LOGIC_OPERATOR.false c.if-first-lt-CONDITION.true refl refl

pub returns-in-0 : goal.returns-in-0
unfolding told_when held_when near slot_of
returns-in-0 c = folded_twice role.Source _ _ c.if-slot-lt-LOGIC_TABLE.false c.requires.1 _ _ c.if-first-lt-CONDITION.false c.in-0.is refl refl

pub returns-in-1 : goal.returns-in-1
unfolding told_when held_when near slot_of
returns-in-1 c = folded_twice role.Number _ _ c.if-slot-lt-LOGIC_TABLE.false c.requires.1 _ _ c.if-first-lt-CONDITION.false c.in-1.is refl refl

pub returns-in-2 : goal.returns-in-2
unfolding told_when held_when near slot_of
returns-in-2 c = folded_twice role.Source _ _ c.if-slot-lt-LOGIC_TABLE.false c.requires.1 _ _ c.if-first-lt-CONDITION.false c.in-2.is refl refl

pub returns-in-3 : goal.returns-in-3
unfolding told_when held_when near slot_of
returns-in-3 c = folded_twice role.Number _ _ c.if-slot-lt-LOGIC_TABLE.false c.requires.1 _ _ c.if-first-lt-CONDITION.false c.in-3.is refl refl

pub returns-in_default : goal.returns-in_default
unfolding told_when held_when near slot_of
returns-in_default c = folded_twice role.Comparison _ _ c.if-slot-lt-LOGIC_TABLE.false c.requires.1 _ _ c.if-first-lt-CONDITION.false (fifth c.in_default.in_default-own.rest (omega arith)) refl refl
