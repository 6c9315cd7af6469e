-- LF ends the line, any other byte joins it.
-- Assumes nothing.
use Rattle.session.specs.Dialogue.{kept_of}
use Rattle.session.proofs.dialogue.Steps.{ends, goes_in}
use Rattle.session.proofs.dialogue.byte.take_byte.Goals as goal

pub returns-then-byte-eq10 : goal.returns-then-byte-eq10
returns-then-byte-eq10 c =
    let a = c.args in
    rw c.clear.ensures (ends (kept_of a.unit.now a.line.now) a.byte a.room.now a.printed c.if-byte-eq10.true c.finish-more.ensures)

pub returns : goal.returns
returns c =
    let a = c.args in
    goes_in a.unit.now a.line.now a.byte a.room.now a.printed c.if-byte-eq10.false c.join.ensures.kept c.join.ensures.past
