-- The lent unit, as a slice.
-- Assumes nothing.
use borrow.Author.Rules.{rules}
use Rattle.dictionary.specs.Unit.{unit_size}
use Rattle.roles.proofs.start.start_in.Goals as goal

pub fill-requires : goal.fill-requires
unfolding unit_size
fill-requires c = search rules
