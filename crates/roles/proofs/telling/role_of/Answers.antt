-- `roles::telling::role_of` meets its contract: each part answers for its slots.
-- Assumes nothing.
use Rattle.dictionary.specs.Names.{slot_of}
use Rattle.roles.proofs.telling.role_of.Goals as goal

pub settings_role-requires : goal.settings_role-requires
unfolding slot_of
settings_role-requires c = c.if-slot-lt-TABLE_SOURCE.true

pub table_role-requires : goal.table_role-requires
unfolding slot_of
table_role-requires c = (c.if-slot-lt-TABLE_SOURCE.false, c.if-slot-lt-LOGIC_ENABLE.true)

pub logic_role-requires : goal.logic_role-requires
unfolding slot_of
logic_role-requires c = (c.if-slot-lt-LOGIC_ENABLE.false, c.if-slot-lt-MATH_ENABLE.true)

pub math_role-requires : goal.math_role-requires
unfolding slot_of
math_role-requires c = (c.if-slot-lt-MATH_ENABLE.false, c.if-slot-lt-CONSTANT.true)

pub input_role-requires : goal.input_role-requires
unfolding slot_of
input_role-requires c = (c.if-slot-lt-CONSTANT.false, c.if-slot-lt-OUTPUT_PV1.true)

pub output_role-requires : goal.output_role-requires
unfolding slot_of
output_role-requires c = (c.if-slot-lt-OUTPUT_PV1.false, c.if-slot-lt-EC_VALUE.true)

pub other_role-requires : goal.other_role-requires
unfolding slot_of
other_role-requires c = c.if-slot-lt-EC_VALUE.false
