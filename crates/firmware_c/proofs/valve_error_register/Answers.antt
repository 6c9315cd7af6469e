-- The library's contract, so that a wrong body is refused for what it is.
-- Assumes nothing.
use Rattle.firmware_c.proofs.valve_error_register.Goals as goal

pub returns : goal.returns
returns c = c.valve_error_register.ensures
