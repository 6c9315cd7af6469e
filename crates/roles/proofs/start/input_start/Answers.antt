-- `fresh::start::input_start` meets its contract: the table has at the slots between two branches the word that is returned (`StartLaws`).
-- Assumes nothing.
use mathlib.Core.Path.{refl}
use Rattle.dictionary.specs.Names.{slot_of}
use Rattle.roles.proofs.StartLaws.{starts_on, rule_when, starts_when}
use Rattle.roles.proofs.start.input_start.Goals as goal

pub returns-then-slot-lt-FAULT_MODE : goal.returns-then-slot-lt-FAULT_MODE
unfolding rule_when starts_when slot_of
returns-then-slot-lt-FAULT_MODE c = starts_on 0 c.requires.0 c.if-slot-lt-FAULT_MODE.true refl

pub returns-then-slot-lt-INPUT_FV1 : goal.returns-then-slot-lt-INPUT_FV1
unfolding rule_when starts_when slot_of
returns-then-slot-lt-INPUT_FV1 c = starts_on 1 c.if-slot-lt-FAULT_MODE.false c.if-slot-lt-INPUT_FV1.true refl

pub returns-then-slot-lt-INPUT_PV1 : goal.returns-then-slot-lt-INPUT_PV1
unfolding rule_when starts_when slot_of
returns-then-slot-lt-INPUT_PV1 c = starts_on 500 c.if-slot-lt-INPUT_FV1.false c.if-slot-lt-INPUT_PV1.true refl

pub returns-then-slot-lt-INPUT_FV2 : goal.returns-then-slot-lt-INPUT_FV2
unfolding rule_when starts_when slot_of
returns-then-slot-lt-INPUT_FV2 c = starts_on 0 c.if-slot-lt-INPUT_PV1.false c.if-slot-lt-INPUT_FV2.true refl

pub returns-then-slot-lt-INPUT_PV2 : goal.returns-then-slot-lt-INPUT_PV2
unfolding rule_when starts_when slot_of
returns-then-slot-lt-INPUT_PV2 c = starts_on 4500 c.if-slot-lt-INPUT_FV2.false c.if-slot-lt-INPUT_PV2.true refl

pub returns-then-slot-lt-SPAN_START : goal.returns-then-slot-lt-SPAN_START
unfolding rule_when starts_when slot_of
returns-then-slot-lt-SPAN_START c = starts_on 1000 c.if-slot-lt-INPUT_PV2.false c.if-slot-lt-SPAN_START.true refl

pub returns-then-slot-lt-SPAN_END : goal.returns-then-slot-lt-SPAN_END
unfolding rule_when starts_when slot_of
returns-then-slot-lt-SPAN_END c = starts_on 0 c.if-slot-lt-SPAN_START.false c.if-slot-lt-SPAN_END.true refl

pub returns : goal.returns
unfolding rule_when starts_when slot_of
returns c = starts_on 5000 c.if-slot-lt-SPAN_END.false c.requires.1 refl
