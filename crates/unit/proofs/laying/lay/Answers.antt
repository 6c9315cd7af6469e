-- Two stores at the row's place, or none.
-- Assumes nothing.
use borrow.Author.Tests.{lt-ltb, le-ltb}
use Rattle.numbers.specs.Choice.{first}
use Rattle.dictionary.specs.Unit.{signals_at}
use Rattle.dictionary.proofs.naming.NameLaws.{counted}
use Rattle.unit.specs.Held.{place, laid}
use Rattle.unit.proofs.laying.lay.Goals as goal

pub returns-then-row-lt16 : goal.returns-then-row-lt16
unfolding laid place signals_at first
returns-then-row-lt16 c = rw (lt-ltb c.args.row 16 c.if-row-lt16.true, counted.2, c.kind_of.ensures, c.number_of.ensures)

pub returns-else-row-lt16 : goal.returns-else-row-lt16
unfolding laid first
returns-else-row-lt16 c = rw (le-ltb c.args.row 16 c.if-row-lt16.false)
