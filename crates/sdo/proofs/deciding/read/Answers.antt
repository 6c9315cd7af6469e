-- `deciding::read` meets its contract, case by case; what is found stands in the unit (`AnswerLaws`).
-- Assumes nothing.
use borrow.Author.Rules.{rules}
use Rattle.dictionary.specs.Unit.{unit_size}
use Rattle.sdo.specs.Answers.{reading, size_of}
use Rattle.sdo.proofs.AnswerLaws.{in_unit}
use Rattle.sdo.proofs.deciding.read.Goals as goal

pub offset_bounds-unit-slot : goal.offset_bounds-unit-slot
unfolding unit_size
offset_bounds-unit-slot c = let h = in_unit c.requires c.in-At.is in search rules

pub bounds-unit-slot : goal.bounds-unit-slot
unfolding unit_size
bounds-unit-slot c = let h = in_unit c.requires c.in-At.is in search rules

pub returns-in-Count : goal.returns-in-Count
unfolding reading
returns-in-Count c = rw (c.in-Count.is, c.from.ensures)

pub returns-in-At : goal.returns-in-At
unfolding reading size_of
returns-in-At c = rw (c.in-At.is, c.width.ensures)
