-- By whether the frame is answered.
-- Assumes nothing.
use Rattle.sdo.proofs.ReplyLaws.{eight}
use Rattle.firmware.proofs.Replies.{silent, replied}
use Rattle.firmware.proofs.valve_serve.Goals as goal

pub returns-in-Some : goal.returns-in-Some
returns-in-Some c = replied 8 c.serve.ensures (rw c.in-Some.is (eight _ _))

pub returns-in-None : goal.returns-in-None
returns-in-None c = replied 0 c.serve.ensures (rw c.in-None.is (silent _))
