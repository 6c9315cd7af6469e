-- An image is written: "An image holds the 611 entries ascending by index, then sub: 5,207 bytes."
-- Assumes nothing.
use Rattle.std.specs.Prelude.{◌≡◌, List, ◌++◌, ℕ, ltb, length, drop, Result, Ok, Err, ⊤}
use Rattle.numbers.specs.Choice.{first}
use Rattle.records.specs.Layout.{image_of}
use Rattle.records.specs.declared.types.Refusal.TheVariants.{NoRoom}
use Rattle.records.specs.declared.types.Refusal.{Refusal}

-- "5,207 bytes"
unfoldable pub image_size : ℕ
image_size = 5207

-- "8: the writer's buffer is under 5,207. A refusal writes nothing.": bytes behind the image stay too
pub record Written (words buffer buffer' : List ℕ) (r : Result ⊤ Refusal) : Type 0 where
  pub answered : r ≡ first (ltb (length buffer) image_size) (Err NoRoom) (Ok tt)
  pub bytes : buffer' ≡ first (ltb (length buffer) image_size) buffer (image_of words ++ drop image_size buffer)
