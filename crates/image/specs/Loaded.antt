-- Reading an image into a unit: all of the configuration, or nothing.
-- Assumes nothing.
use Rattle.std.specs.Prelude.{ℕ, List, ◌++◌, ◌≡◌, drop, Result, Ok, Err, ⊤}
use Rattle.dictionary.specs.Names.{configured}
use Rattle.dictionary.specs.Unit.{unticked}
use Rattle.image.specs.Reading.{reading, configuration_in}
use Rattle.records.specs.declared.types.Refusal.{Refusal}

-- "A refusal writes nothing"; a good image writes the configuration, and all behind it in the unit stays, but that the unit forgets its tick: a load is a
-- write
unfoldable pub loaded : List ℕ → List ℕ → Result ⊤ Refusal → List ℕ
loaded image unit (Ok _) = configuration_in image ++ drop configured (unticked unit)
loaded image unit (Err why) = unit

pub record Loaded (image unit unit' : List ℕ) (r : Result ⊤ Refusal) : Type 0 where
  pub answered : r ≡ reading image
  pub state : unit' ≡ loaded image unit (reading image)
