-- A hex digit, told by one comparison.
-- Assumes nothing.
use borrow.Author.Tests.{lt-ltb, le-ltb}
use Rattle.numbers.specs.Choice.{first}
use Rattle.printer.specs.Printing.{hex_digit}
use Rattle.printer.proofs.answer_lines.put.hex_digit.Goals as goal

pub returns-then-n-lt10 : goal.returns-then-n-lt10
unfolding hex_digit first
returns-then-n-lt10 c = rw (lt-ltb c.args.n 10 c.if-n-lt10.true)

pub returns-else-n-lt10 : goal.returns-else-n-lt10
unfolding hex_digit first
returns-else-n-lt10 c = rw (le-ltb c.args.n 10 c.if-n-lt10.false)
