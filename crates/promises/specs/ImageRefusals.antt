-- "Bad input meets its listed refusal", of images: the refusals in the paper's order, and the numbers that C is told.
-- Assumes nothing.
use Rattle.std.specs.Prelude.{ℕ, ◌+◌, ◌<◌, ◌≤◌, Bool, not, ◌&&◌, ◌↔◌, ◌≡◌, List, [], ◌∷◌, ◌++◌, eqb, ltb, ℤ, pos, neg_ℤ, length, take, drop, Ok, Err}
use Rattle.octets.specs.Little.{little}
use Rattle.numbers.specs.Choice.{first}
use Rattle.sdo.specs.Answers.{answer}
use Rattle.sdo.specs.Served.{Served}
use Rattle.records.specs.Layout.{Listed, listed, size}
use Rattle.records.specs.Walk.{outcome_number, index_in, sub_in, size_in, data_in, fits}
use Rattle.records.specs.declared.types.Refusal.TheVariants.{NoRoom}
use Rattle.image.specs.Reading.{reading, in_order, configuration_in}
use Rattle.image.specs.Told.{told}
use Rattle.image.specs.Written.{Written, image_size}
use Rattle.image.specs.Loaded.{Loaded}
use Rattle.lists.specs.Changes.{list_of}
use Rattle.firmware.specs.Replied.{Replied}
use Rattle.firmware.specs.Told.{ToldSaved, ToldLoaded}
use Rattle.gateway.specs.Restored.{Restored}
use Rattle.promises.specs.FrameRefusals.{first_match}

-- ---- images: "Readings refuse, records in order"

-- one record, which has to be some entry's, from its head on
unfoldable pub record_rows : Listed → List ℕ → List (Bool × ℕ)
record_rows e rest =
    -- "1 ended early"
    (ltb (length rest) 7, 1)
    -- "3 not the next entry"
    ∷ (not (eqb (index_in rest) e.index && eqb (sub_in rest) e.sub), 3)
    -- "4 size"
    ∷ (not (eqb (size_in rest) (size e)), 4)
    -- "1 .. (for a record's data: after 4)"
    ∷ (ltb (length rest) (7 + size e), 1)
    -- "5 range or not finite"
    ∷ (not (fits e (data_in (size e) rest)), 5)
    ∷ []

unfoldable pub records_rows : List Listed → List ℕ → List (Bool × ℕ)
records_rows [] rest = []
records_rows (e ∷ es) rest = record_rows e rest ++ records_rows es (drop (7 + size e) rest)

unfoldable pub image_rows : List ℕ → List (Bool × ℕ)
image_rows image =
    -- "1 ended early"
    (ltb (length image) 4, 1)
    -- "2 count not 611"
    ∷ (not (eqb (little (take 4 image)) 611), 2)
    -- "records in order"
    ∷ records_rows listed (drop 4 image)
    -- "then 7 bytes left over"
    ++ (ltb 5207 (length image), 7)
    -- "then 6 chain"
    ∷ (not (in_order (configuration_in image)), 6)
    ∷ []

-- the number of the refusal that bytes meet, or 0
unfoldable pub met : List ℕ → ℕ
met image = first_match (image_rows image) 0

-- reading answers with that refusal, whatever the bytes
abbrev pub ImagesMeetTheirs : Type 0
ImagesMeetTheirs = (image : List ℕ) → outcome_number (reading image) ≡ met image

-- "8: the writer's buffer is under 5,207, or a list doesn't fit": it is never an image's
abbrev pub OneToSeven : Type 0
OneToSeven = (image : List ℕ) → met image ≤ 7

-- ---- what C is told

-- of an image that is read, by `valve_check` and `valve_load`, or written, by `valve_save`: 0, or the refusal's number below zero
abbrev pub ToldToC : Type 0
ToldToC =
    ((image : List ℕ) (r : ℤ) → r ≡ told (reading image) → r ≡ neg_ℤ (pos (met image)))
    × ((unit image unit' : List ℕ) (r : ℤ) → ToldLoaded unit image unit' r → r ≡ neg_ℤ (pos (met image)))
    × ((unit image image' : List ℕ) (r : ℤ) → ToldSaved unit image image' r → r ≡ neg_ℤ (pos (first (ltb (length image) 5207) 8 0)))

-- C's calls leave what serving, loading and saving leave, so that what is promised of those is promised of C's
abbrev pub SameForC : Type 0
SameForC =
    ((unit frame reply unit' reply' : List ℕ) (r : ℤ) → Replied unit frame reply unit' reply' r → Served unit frame reply unit' reply' (answer unit frame (length reply)))
    × ((unit image unit' : List ℕ) (r : ℤ) → ToldLoaded unit image unit' r → Loaded image unit unit' (reading image))
    × ((unit image image' : List ℕ) (r : ℤ) → ToldSaved unit image image' r → Written unit image image' (first (ltb (length image) image_size) (Err NoRoom) (Ok tt)))

-- two answers that the contracts of C's calls allow are equal, with all that they leave
abbrev pub OneForC : Type 0
OneForC =
    ((unit frame reply u₁ b₁ u₂ b₂ : List ℕ) (r s : ℤ) → Replied unit frame reply u₁ b₁ r → Replied unit frame reply u₂ b₂ s → (r ≡ s) × (u₁ ≡ u₂) × (b₁ ≡ b₂))
    × ((unit image u₁ u₂ : List ℕ) (r s : ℤ) → ToldLoaded unit image u₁ r → ToldLoaded unit image u₂ s → (r ≡ s) × (u₁ ≡ u₂))
    × ((unit image b₁ b₂ : List ℕ) (r s : ℤ) → ToldSaved unit image b₁ r → ToldSaved unit image b₂ s → (r ≡ s) × (b₁ ≡ b₂))

-- "list length in bytes, or -n for the current image, -(10+n) for the wanted, then -8 for room": of what the two images meet, the list's bytes and the buffer's
pub record Tells (current wanted list room : ℕ) (r : ℤ) : Type 0 where
  pub for_current : (n : ℕ) → 1 ≤ n → n ≤ 7 → (r ≡ neg_ℤ (pos n)) ↔ (current ≡ n)
  pub for_wanted : (n : ℕ) → 1 ≤ n → n ≤ 7 → (r ≡ neg_ℤ (pos (10 + n))) ↔ ((current ≡ 0) × (wanted ≡ n))
  pub for_room : (r ≡ neg_ℤ (pos 8)) ↔ ((current ≡ 0) × (wanted ≡ 0) × (room < list))
  pub for_length : (n : ℕ) → (r ≡ pos n) ↔ ((current ≡ 0) × (wanted ≡ 0) × (list ≤ room) × (n ≡ list))

-- so the number that `restore_list` gives tells which of them it was
abbrev pub NumberTellsWhich : Type 0
NumberTellsWhich =
    (current wanted buffer buffer' : List ℕ) (r : ℤ) → Restored current wanted buffer buffer' r
    → Tells (met current) (met wanted) (length (list_of current wanted)) (length buffer) r
