-- `fresh::start::initial` meets its contract: each part answers for its slots.
-- Assumes nothing.
use Rattle.dictionary.specs.Names.{slot_of}
use Rattle.roles.proofs.start.initial.Goals as goal

pub settings_start-requires : goal.settings_start-requires
unfolding slot_of
settings_start-requires c = c.if-slot-lt-TABLE_SOURCE.true

pub table_start-requires : goal.table_start-requires
unfolding slot_of
table_start-requires c = (c.if-slot-lt-TABLE_SOURCE.false, c.if-slot-lt-LOGIC_ENABLE.true)

pub logic_start-requires : goal.logic_start-requires
unfolding slot_of
logic_start-requires c = (c.if-slot-lt-LOGIC_ENABLE.false, c.if-slot-lt-MATH_ENABLE.true)

pub math_start-requires : goal.math_start-requires
unfolding slot_of
math_start-requires c = (c.if-slot-lt-MATH_ENABLE.false, c.if-slot-lt-CONSTANT.true)

pub input_start-requires : goal.input_start-requires
unfolding slot_of
input_start-requires c = (c.if-slot-lt-CONSTANT.false, c.if-slot-lt-OUTPUT_PV1.true)

pub other_start-requires : goal.other_start-requires
unfolding slot_of
other_start-requires c = (c.if-slot-lt-OUTPUT_PV1.false, c.requires)
