-- What is promised of images.
-- Assumes nothing.
use Rattle.std.specs.Prelude.{ℕ, ◌<◌, ◌≤◌, ◌≡◌, List, [], ◌++◌, length, get_or, take, drop, Result, Ok, Err, ⊤}
use Rattle.octets.specs.Little.{bytes, Bytes}
use Rattle.dictionary.specs.Names.{configured, index_at, sub_at}
use Rattle.dictionary.specs.Unit.{unticked}
use Rattle.roles.specs.Values.{at_start}
use Rattle.entries.specs.Valid.{Valid}
use Rattle.records.specs.Layout.{listed, size, entry, image_of}
use Rattle.records.specs.declared.types.Refusal.{Refusal}
use Rattle.records.specs.LookUp.{look_up}
use Rattle.image.specs.Reading.{reading, configuration_in}
use Rattle.image.specs.Written.{Written, image_size}
use Rattle.image.specs.Loaded.{Loaded}
use Rattle.promises.specs.Running.{Event, MadeOfBytes, run}

-- "An image written from a controller reads back as that configuration": from the start, after any list of frames, ticks and images that are loaded
abbrev pub SavedReadsBack : Type 0
SavedReadsBack =
    (events : List Event) (buffer buffer' other other' : List ℕ) (w r : Result ⊤ Refusal) → MadeOfBytes events
    → Written (run events at_start) buffer buffer' w → w ≡ Ok tt → Loaded (take image_size buffer') other other' r
    → (r ≡ Ok tt) × (other' ≡ take configured (run events at_start) ++ drop configured (unticked other))

-- "one that is read and written again has the same bytes"
abbrev pub SameBytesAgain : Type 0
SameBytesAgain =
    (image unit unit' buffer buffer' : List ℕ) (r w : Result ⊤ Refusal) → Bytes image
    → Loaded image unit unit' r → r ≡ Ok tt → Written unit' buffer buffer' w → w ≡ Ok tt
    → take image_size buffer' ≡ image

-- what is accepted is the image of a configuration in range and in order, and every such image is accepted
abbrev pub AcceptsExactly : Type 0
AcceptsExactly =
    ((image : List ℕ) → Bytes image → reading image ≡ Ok tt → Valid (configuration_in image) × (image ≡ image_of (configuration_in image)))
    × ((unit : List ℕ) → configured ≤ length unit → Valid unit → reading (image_of unit) ≡ Ok tt)

-- two different configurations never share an image
abbrev pub OneConfigurationEach : Type 0
OneConfigurationEach =
    (unit other : List ℕ) → configured ≤ length unit → configured ≤ length other → Valid unit → Valid other
    → image_of unit ≡ image_of other → take configured unit ≡ take configured other

-- "A refusal writes nothing"
abbrev pub RefusalsWriteNothing : Type 0
RefusalsWriteNothing =
    ((words buffer buffer' : List ℕ) (why : Refusal) → Written words buffer buffer' (Err why) → buffer' ≡ buffer)
    × ((image unit unit' : List ℕ) (why : Refusal) → Loaded image unit unit' (Err why) → unit' ≡ unit)

-- two answers that the contracts of writing and of loading an image allow are equal, with all that they leave
abbrev pub OneOutcome : Type 0
OneOutcome =
    ((words buffer b₁ b₂ : List ℕ) (r s : Result ⊤ Refusal) → Written words buffer b₁ r → Written words buffer b₂ s → (r ≡ s) × (b₁ ≡ b₂))
    × ((image unit u₁ u₂ : List ℕ) (r s : Result ⊤ Refusal) → Loaded image unit u₁ r → Loaded image unit u₂ s → (r ≡ s) × (u₁ ≡ u₂))

-- "The bytes of one record's value are handed on as they stand in the image": for an entry's name those of its word, for any other name none
abbrev pub LookedUpAsItStands : Type 0
LookedUpAsItStands =
    (image : List ℕ) → Bytes image → reading image ≡ Ok tt
    → ((slot : ℕ) → slot < configured → look_up image (index_at slot) (sub_at slot) ≡ bytes (size (entry listed slot)) (get_or (configuration_in image) slot 0))
    × ((index sub : ℕ) → ((slot : ℕ) → slot < configured → (index_at slot ≡ index) × (sub_at slot ≡ sub) → ⊥) → look_up image index sub ≡ [])
