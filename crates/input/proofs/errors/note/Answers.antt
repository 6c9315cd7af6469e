-- A flagging is entered, and nothing else is.
-- Assumes nothing.
use Rattle.numbers.specs.Choice.{first}
use Rattle.dictionary.specs.Names.{words}
use Rattle.dictionary.specs.Unit.{signals_at, runs_at, flags_at, unit_size}
use Rattle.input.specs.Errors.{flagging, noted}
use borrow.Author.Rules.{rules}
use Rattle.input.proofs.errors.note.Goals as goal

pub enter-requires : goal.enter-requires
unfolding unit_size flags_at runs_at signals_at words
enter-requires c = search rules

pub returns-then-not-was : goal.returns-then-not-was
unfolding noted flagging first
returns-then-not-was c = rw (c.if-is.true, c.if-not-was.true) c.enter.ensures

pub returns-else-not-was : goal.returns-else-not-was
unfolding noted flagging first
returns-else-not-was c = rw (c.if-is.true, c.if-not-was.false)

pub returns-else-is : goal.returns-else-is
unfolding noted flagging first
returns-else-is c = rw c.if-is.false
