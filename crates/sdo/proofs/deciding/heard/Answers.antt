-- `deciding::heard` meets its contract: each return is what its tests choose (`AnswerLaws`).
-- Assumes nothing.
use Rattle.sdo.proofs.AnswerLaws.{not_eight, no_room, an_abort, spoken}
use Rattle.sdo.proofs.deciding.heard.Goals as goal

pub returns-then-frame-ne8 : goal.returns-then-frame-ne8
returns-then-frame-ne8 c = not_eight _ _ c.if-frame-ne8.true

pub returns-then-room-lt8 : goal.returns-then-room-lt8
returns-then-room-lt8 c = no_room _ _ c.if-frame-ne8.false c.if-room-lt8.true

pub returns-then-frame : goal.returns-then-frame
returns-then-frame c = an_abort _ _ c.if-frame-ne8.false c.if-room-lt8.false c.if-frame.true

pub returns : goal.returns
returns c = (spoken _ _ c.if-frame-ne8.false c.if-room-lt8.false c.if-frame.false, c.eight.ensures)
