-- A fixed text.
-- Assumes nothing.
use Rattle.printer.specs.Printing.{unknown_line, ended}
use Rattle.printer.proofs.printing.show_unknown.Goals as goal

pub returns : goal.returns
unfolding unknown_line ended
returns c = c.show_text.ensures
