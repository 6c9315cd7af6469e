-- The two words stand at the row's place.
-- Assumes nothing.
use Rattle.dictionary.specs.Unit.{before_at}
use Rattle.why.specs.Seen.{before_row}
use Rattle.why.proofs.seeing.found.Goals as goal

pub returns : goal.returns
unfolding before_row before_at
returns c = c.of_words.ensures
