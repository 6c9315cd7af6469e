-- `serving::show` meets its contract: the size chooses the head and cuts the value.
-- Assumes nothing.
use native.Mathlib.Omega.{arith}
use borrow.Author.Tests.{ne_eqb}
use Rattle.numbers.specs.Choice.{first}
use Rattle.sdo.specs.Frames.{read_command, cut}
use Rattle.sdo.proofs.serving.show.Goals as goal

pub returns-in-4 : goal.returns-in-4
unfolding read_command cut first
returns-in-4 c = rw c.in-4.is c.respond.ensures

pub returns-in-2 : goal.returns-in-2
unfolding read_command cut first
returns-in-2 c = rw c.in-2.is c.respond-in-2.ensures

pub returns-in_default : goal.returns-in_default
unfolding read_command cut first
returns-in_default c = rw (ne_eqb c.args.size 4 (λ e. omega arith), ne_eqb c.args.size 2 (λ e. omega arith)) c.respond-in_default.ensures
