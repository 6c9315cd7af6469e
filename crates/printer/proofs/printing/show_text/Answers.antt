-- A text at the buffer's start.
-- Assumes nothing.
use native.Mathlib.Omega.{arith}
use Rattle.printer.proofs.Stores.{printed}
use Rattle.printer.proofs.printing.show_text.Goals as goal

pub returns : goal.returns
returns c = printed (record { stored = c.put.ensures; place = omega arith }) (omega arith)
