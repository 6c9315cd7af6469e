-- What images and a question why leave in C: 0, a rule, or the refusal's number below zero, and every lent word and byte.
-- Assumes nothing.
use Rattle.std.specs.Prelude.{ℕ, ◌≡◌, List, ◌++◌, ltb, ℤ, length, drop, Ok, Err}
use Rattle.std.proofs.lemmas.List.Edits.{sets}
use Rattle.numbers.specs.Choice.{first}
use Rattle.records.specs.Layout.{image_of}
use Rattle.records.specs.declared.types.Refusal.TheVariants.{NoRoom}
use Rattle.image.specs.Written.{image_size}
use Rattle.image.specs.Reading.{reading}
use Rattle.image.specs.Loaded.{loaded}
use Rattle.image.specs.Told.{told}
use Rattle.why.specs.Answer.{answered, number, explained}

-- "8: the writer's buffer is under 5,207": as `Written`, with the number in the outcome's place
pub record ToldSaved (unit image image' : List ℕ) (r : ℤ) : Type 0 where
  pub answered : r ≡ told (first (ltb (length image) image_size) (Err NoRoom) (Ok tt))
  pub bytes : image' ≡ first (ltb (length image) image_size) image (image_of unit ++ drop image_size image)

-- "Readings refuse .. A refusal writes nothing": as `Loaded`, the same way
pub record ToldLoaded (unit image unit' : List ℕ) (r : ℤ) : Type 0 where
  pub answered : r ≡ told (reading image)
  pub state : unit' ≡ loaded image unit (reading image)

-- as `Explained`, the same way
pub record ToldWhy (unit : List ℕ) (output : ℕ) (trail trail' : List ℕ) (r : ℤ) : Type 0 where
  pub answer : r ≡ number (answered unit output)
  pub bytes : trail' ≡ sets trail 0 (explained unit output (answered unit output))
