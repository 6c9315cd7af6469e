-- The two words stand at the row's place.
-- Assumes nothing.
use Rattle.dictionary.specs.Unit.{signals_at}
use Rattle.dictionary.proofs.naming.NameLaws.{counted}
use Rattle.unit.specs.Held.{place, at_row}
use Rattle.unit.proofs.sources.held.held.Goals as goal

pub returns : goal.returns
unfolding at_row place signals_at
returns c = rw counted.2 c.of_words.ensures
