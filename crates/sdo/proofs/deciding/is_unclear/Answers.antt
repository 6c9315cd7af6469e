-- `deciding::is_unclear` meets its contract: each return is what its test chooses.
-- Assumes nothing.
use borrow.Author.Tests.{ne_eqb}
use Rattle.dictionary.specs.Names.{slot_of}
use Rattle.sdo.specs.Answers.{unclear}
use Rattle.sdo.proofs.deciding.is_unclear.Goals as goal

pub returns-then-slot-eq-ERRORS_KEPT : goal.returns-then-slot-eq-ERRORS_KEPT
unfolding unclear slot_of
returns-then-slot-eq-ERRORS_KEPT c = rw c.if-slot-eq-ERRORS_KEPT.true

pub returns-else-slot-eq-ERRORS_KEPT : goal.returns-else-slot-eq-ERRORS_KEPT
unfolding unclear slot_of
returns-else-slot-eq-ERRORS_KEPT c = rw (ne_eqb _ _ c.if-slot-eq-ERRORS_KEPT.false)
