-- What `restore_list` leaves to C: "list length in bytes, or -n for the current image, -(10+n) for the wanted, then -8 for room".
-- Assumes nothing.
use Rattle.std.specs.Prelude.{ℕ, ◌+◌, ◌≡◌, List, ℤ, pos, neg_ℤ, length, Result, Ok, Err}
use Rattle.records.specs.Walk.{number}
use Rattle.image.specs.Reading.{reading}
use Rattle.lists.specs.Changes.{list_of}
use Rattle.lists.specs.Listing.{made, left_by}
use Rattle.lists.specs.declared.types.Unmade.{Unmade}
use Rattle.lists.specs.declared.types.Unmade.TheVariants.{Current, Wanted, NoRoom}

-- the paper's number for each case
unfoldable pub told : Result ℕ Unmade → ℤ
told (Ok n) = pos n
told (Err (Current why)) = neg_ℤ (pos (number why))
told (Err (Wanted why)) = neg_ℤ (pos (10 + number why))
told (Err NoRoom) = neg_ℤ (pos 8)

-- what is made of two images and a buffer
unfoldable pub outcome : List ℕ → List ℕ → List ℕ → Result ℕ Unmade
outcome current wanted buffer = made (reading current) (reading wanted) (length (list_of current wanted)) (length buffer)

pub record Restored (current wanted buffer buffer' : List ℕ) (r : ℤ) : Type 0 where
  pub answered : r ≡ told (outcome current wanted buffer)
  pub bytes : buffer' ≡ left_by (outcome current wanted buffer) (list_of current wanted) buffer
