-- `fresh::start::other_start` meets its contract: the table has at the slots between two branches the word that is returned (`StartLaws`).
-- Assumes nothing.
use mathlib.Core.Path.{refl}
use Rattle.dictionary.specs.Names.{slot_of, words}
use Rattle.dictionary.proofs.Sieve.{le_lt}
use Rattle.roles.proofs.StartLaws.{starts_on, rule_when, starts_when}
use Rattle.roles.proofs.start.other_start.Goals as goal

pub returns-then-slot-lt-OUTPUT_PV2 : goal.returns-then-slot-lt-OUTPUT_PV2
unfolding rule_when starts_when slot_of words
returns-then-slot-lt-OUTPUT_PV2 c = starts_on 0 c.requires.0 c.if-slot-lt-OUTPUT_PV2.true refl

pub returns-then-slot-lt-OUTPUT_FV2 : goal.returns-then-slot-lt-OUTPUT_FV2
unfolding rule_when starts_when slot_of words
returns-then-slot-lt-OUTPUT_FV2 c = starts_on 1000 c.if-slot-lt-OUTPUT_PV2.false c.if-slot-lt-OUTPUT_FV2.true refl

pub returns-then-slot-lt-FAULT_FV : goal.returns-then-slot-lt-FAULT_FV
unfolding rule_when starts_when slot_of words
returns-then-slot-lt-FAULT_FV c = starts_on 1500 c.if-slot-lt-OUTPUT_FV2.false c.if-slot-lt-FAULT_FV.true refl

pub returns-then-slot-le-FIXED : goal.returns-then-slot-le-FIXED
unfolding rule_when starts_when slot_of words
returns-then-slot-le-FIXED c = starts_on 0 c.if-slot-lt-FAULT_FV.false (le_lt c.if-slot-le-FIXED.true) refl

pub returns-then-slot-lt-ERRORS : goal.returns-then-slot-lt-ERRORS
unfolding rule_when starts_when slot_of words
returns-then-slot-lt-ERRORS c = starts_on 0x3F800000 c.if-slot-le-FIXED.false c.if-slot-lt-ERRORS.true refl

pub returns : goal.returns
unfolding rule_when starts_when slot_of words
returns c = starts_on 0 c.if-slot-lt-ERRORS.false c.requires.1 refl
