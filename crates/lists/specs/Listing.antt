-- "A list is made from a current and a wanted image, current read first".
-- Assumes nothing.
use Rattle.std.specs.Prelude.{◌≡◌, List, ◌++◌, ℕ, ltb, length, drop, Result, Ok, Err, ⊤}
use Rattle.numbers.specs.Choice.{first}
use Rattle.image.specs.Reading.{reading}
use Rattle.lists.specs.Changes.{list_of}
use Rattle.lists.specs.declared.types.Unmade.{Unmade}
use Rattle.lists.specs.declared.types.Unmade.TheVariants.{Current, Wanted, NoRoom}
use Rattle.records.specs.declared.types.Refusal.{Refusal}

-- the current image first, then the wanted one, "then -8 for room"
unfoldable pub made : Result ⊤ Refusal → Result ⊤ Refusal → ℕ → ℕ → Result ℕ Unmade
made (Err why) other size room = Err (Current why)
made (Ok _) (Err why) size room = Err (Wanted why)
made (Ok _) (Ok _) size room = first (ltb room size) (Err NoRoom) (Ok size)

-- "Bytes past the list stay"; "A refusal writes nothing"
unfoldable pub left_by : Result ℕ Unmade → List ℕ → List ℕ → List ℕ
left_by (Ok n) list buffer = list ++ drop n buffer
left_by (Err why) list buffer = buffer

pub record Listing (current wanted buffer buffer' : List ℕ) (r : Result ℕ Unmade) : Type 0 where
  pub answered : r ≡ made (reading current) (reading wanted) (length (list_of current wanted)) (length buffer)
  pub bytes : buffer' ≡ left_by r (list_of current wanted) buffer
