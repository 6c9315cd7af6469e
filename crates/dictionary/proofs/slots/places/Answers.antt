-- `dictionary::slots::places` meets its contract: the sums come to the slots that the table's rows have, by computing both.
-- Assumes nothing.
use mathlib.Core.Path.{refl}
use Rattle.dictionary.specs.Unit.{places}
use Rattle.dictionary.proofs.slots.places.Goals as goal

pub returns : goal.returns
unfolding places
returns c = refl
