-- A fixed text.
-- Assumes nothing.
use Rattle.printer.specs.Printing.{silent_line, ended}
use Rattle.printer.proofs.printing.show_silent.Goals as goal

pub returns : goal.returns
unfolding silent_line ended
returns c = c.show_text.ensures
