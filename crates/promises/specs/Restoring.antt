-- What is promised of a restore list: of the bytes and the number that `restore_list` leaves to C, sent to a unit as frames.
-- Assumes nothing.
use Rattle.std.specs.Prelude.{ℕ, ◌+◌, ◌<◌, ◌≤◌, false, ◌⊎◌, ◌≡◌, List, [], ◌∷◌, ◌++◌, ℤ, pos, negsuc, neg_ℤ, length, get_or, take, drop, Some, None, Ok, Err}
use Rattle.octets.specs.Little.{little, Bytes}
use Rattle.numbers.specs.Order.{below}
use Rattle.dictionary.specs.Names.{configured}
use Rattle.dictionary.specs.Unit.{unit_size}
use Rattle.roles.specs.Values.{at_start}
use Rattle.entries.specs.Valid.{Valid}
use Rattle.sdo.specs.Answers.{size_of, answer}
use Rattle.sdo.specs.Frames.{Answer, name_in, reply_to}
use Rattle.sdo.specs.declared.types.Done.TheVariants.{Value, Written}
use Rattle.sdo.specs.Served.{after}
use Rattle.records.specs.Layout.{Listed, listed, size, image_of}
use Rattle.records.specs.Walk.{index_in, sub_in, size_in}
use Rattle.image.specs.Reading.{configuration_in}
use Rattle.sending.specs.Sending.{apart}
use Rattle.gateway.specs.Restored.{Restored}
use Rattle.promises.specs.Delivery.{frames_in}
use Rattle.promises.specs.Running.{Event, frame, tick, load, happens, run, MadeOfBytes}

-- ---- "Take any two complete images whose values are in range and whose chains are ordered, and a buffer of 5,207 bytes"

-- "the right count, all 611 records in place at their sizes and nothing after them"
abbrev pub InPlace : List Listed → List ℕ → Type 0
InPlace [] rest = rest ≡ []
InPlace (e ∷ es) rest =
    (7 + size e ≤ length rest) × (index_in rest ≡ e.index) × (sub_in rest ≡ e.sub) × (size_in rest ≡ size e) × InPlace es (drop (7 + size e) rest)

pub record Complete (image : List ℕ) : Type 0 where
  pub of_bytes : Bytes image
  pub headed : 4 ≤ length image
  pub count : little (take 4 image) ≡ configured
  pub places : InPlace listed (drop 4 image)

-- "complete", and "whose values are in range", a REAL32 finite, "and whose chains are ordered"
pub record Proper (image : List ℕ) : Type 0 where
  pub complete : Complete image
  pub valid : Valid (configuration_in image)

-- a call of `restore_list` on them
pub record Called (current wanted buffer buffer' : List ℕ) (r : ℤ) : Type 0 where
  pub first : Proper current
  pub second : Proper wanted
  pub room : 5207 ≤ length buffer
  pub restored : Restored current wanted buffer buffer' r

-- "The list we make from them": the bytes that the returned number counts; its records as frames are `frames_in` of Delivery
unfoldable pub list_left : ℤ → List ℕ → List ℕ
list_left (pos n) buffer = take n buffer
list_left (negsuc n) buffer = []

-- ---- "sent to a controller that holds the first while no other configuration write comes between"

-- a unit of the right length, whose configuration's words are these
pub record Holds (unit words : List ℕ) : Type 0 where
  pub long : length unit ≡ unit_size
  pub front : take configured unit ≡ words

-- the call, and a controller that holds the first
pub record Restoring (current wanted buffer buffer' : List ℕ) (r : ℤ) (unit : List ℕ) : Type 0 where
  pub called : Called current wanted buffer buffer' r
  pub holds : Holds unit (configuration_in current)

-- what may come between: a tick, a read, a refused frame, a write to 2500h, a load that leaves every entry as it was
abbrev pub Calm : Event → List ℕ → Type 0
Calm (frame f room) unit = (slot word : ℕ) → answer unit f room ≡ Some (Ok (Written slot word)) → configured ≤ slot
Calm (tick samples) unit = Unit
Calm (load image) unit = take configured (happens (load image) unit) ≡ take configured unit

-- some frames, sent in their order to a unit, and what else happened before, between and after them
pub data Sent : List (List ℕ) → List ℕ → List ℕ → Type 0 where
  nothing : {unit : List ℕ} → Sent [] unit unit
  meanwhile : {frames : List (List ℕ)} {unit unit' : List ℕ} (e : Event) → Calm e unit → Sent frames (happens e unit) unit' → Sent frames unit unit'
  send : {f : List ℕ} {frames : List (List ℕ)} {unit unit' : List ℕ} (room : ℕ) → 8 ≤ room → Sent frames (happens (frame f room) unit) unit' → Sent (f ∷ frames) unit unit'

-- ---- what is promised

-- "The list we make from them": one is made of any two such images; 5,207 bytes are always enough, and those behind it stay
abbrev pub AlwaysFits : Type 0
AlwaysFits =
    (current wanted buffer buffer' : List ℕ) (r : ℤ) → Called current wanted buffer buffer' r
    → (r ≡ pos (length (list_left r buffer'))) × (length (list_left r buffer') ≤ 5207) × (drop (length (list_left r buffer')) buffer' ≡ drop (length (list_left r buffer')) buffer)

-- the count that the list begins with, and the records that it has, are the entries that differ
abbrev pub CountIsDifference : Type 0
CountIsDifference =
    (current wanted buffer buffer' : List ℕ) (r : ℤ) → Called current wanted buffer buffer' r
    → (little (take 4 buffer') ≡ apart (configuration_in current) (configuration_in wanted))
    × (length (frames_in (list_left r buffer')) ≡ apart (configuration_in current) (configuration_in wanted))

-- "two equal images give four zero bytes"
abbrev pub EqualImages : Type 0
EqualImages = (image buffer buffer' : List ℕ) (r : ℤ) → Called image image buffer buffer' r → (r ≡ pos 4) × (list_left r buffer' ≡ 0 ∷ 0 ∷ 0 ∷ 0 ∷ [])

-- "is accepted record by record": wherever the fitter is in the list, the next frame is answered 60h, its name, four zeros
abbrev pub EachAccepted : Type 0
EachAccepted =
    (current wanted buffer buffer' : List ℕ) (r : ℤ) (unit : List ℕ) → Restoring current wanted buffer buffer' r unit
    → (sent rest : List (List ℕ)) (f unit' : List ℕ) → frames_in (list_left r buffer') ≡ sent ++ (f ∷ rest) → Sent sent unit unit'
    → (room : ℕ) → 8 ≤ room → reply_to f (answer unit' f room) ≡ 0x60 ∷ name_in f ++ (0 ∷ 0 ∷ 0 ∷ 0 ∷ [])

-- "and leaves the second": after the last frame every entry reads as in the wanted image, and what the unit would save is that image, byte for byte
abbrev pub Arrives : Type 0
Arrives =
    (current wanted buffer buffer' : List ℕ) (r : ℤ) (unit : List ℕ) → Restoring current wanted buffer buffer' r unit
    → (unit' : List ℕ) → Sent (frames_in (list_left r buffer')) unit unit' → Holds unit' (configuration_in wanted) × (image_of unit' ≡ wanted)

-- an accepted write counts as one record
abbrev pub one_record : Answer → ℕ
one_record None = 0
one_record (Some (Err a)) = 0
one_record (Some (Ok (Value word n))) = 0
one_record (Some (Ok (Written slot word))) = 1

-- or as the bytes that the record has in a list
abbrev pub record_bytes : Answer → ℕ
record_bytes None = 0
record_bytes (Some (Err a)) = 0
record_bytes (Some (Ok (Value word n))) = 0
record_bytes (Some (Ok (Written slot word))) = 7 + size_of slot

-- what the accepted writes of a list of events come to
abbrev pub written_by : (Answer → ℕ) → Event → List ℕ → ℕ
written_by worth (frame f room) unit = worth (answer unit f room)
written_by worth (tick samples) unit = 0
written_by worth (load image) unit = 0

unfoldable pub writes : (Answer → ℕ) → List Event → List ℕ → ℕ
writes worth [] unit = 0
writes worth (e ∷ es) unit = written_by worth e unit + writes worth es (happens e unit)

-- a list is frames: no image is loaded beside them
abbrev pub FramesAndTicks : List Event → Type 0
FramesAndTicks [] = Unit
FramesAndTicks (frame f room ∷ es) = FramesAndTicks es
FramesAndTicks (tick samples ∷ es) = FramesAndTicks es
FramesAndTicks (load image ∷ es) = ⊥

-- "It is as short as any such list can be": whatever takes the unit from the first to the second has at least as many accepted writes, and their records as many bytes
abbrev pub Shortest : Type 0
Shortest =
    (current wanted buffer buffer' : List ℕ) (r : ℤ) (unit : List ℕ) → Restoring current wanted buffer buffer' r unit
    → (events : List Event) → FramesAndTicks events → take configured (run events unit) ≡ configuration_in wanted
    → (length (frames_in (list_left r buffer')) ≤ writes one_record events unit) × (length (list_left r buffer') ≤ 4 + writes record_bytes events unit)

-- "Cut after any record, every entry holds its first or its second value": a pulled plug leaves nothing that was in neither image
abbrev pub CutAnywhere : Type 0
CutAnywhere =
    (current wanted buffer buffer' : List ℕ) (r : ℤ) (unit : List ℕ) → Restoring current wanted buffer buffer' r unit
    → (sent rest : List (List ℕ)) (unit' : List ℕ) → frames_in (list_left r buffer') ≡ sent ++ rest → Sent sent unit unit'
    → (slot : ℕ) → slot < configured
    → (get_or unit' slot 0 ≡ get_or (configuration_in current) slot 0) ⊎ (get_or unit' slot 0 ≡ get_or (configuration_in wanted) slot 0)

-- so a cut list is taken up again at no cost: made anew, from the image that the unit would now save, it is what was not sent, frame for frame
abbrev pub TakenUpAgain : Type 0
TakenUpAgain =
    (current wanted buffer buffer' : List ℕ) (r : ℤ) (unit : List ℕ) → Restoring current wanted buffer buffer' r unit
    → (sent rest : List (List ℕ)) (unit' : List ℕ) → frames_in (list_left r buffer') ≡ sent ++ rest → Sent sent unit unit'
    → (again again' : List ℕ) (s : ℤ) → 5207 ≤ length again → Restored (image_of unit') wanted again again' s
    → Restoring (image_of unit') wanted again again' s unit' × (frames_in (list_left s again') ≡ rest)

-- such images and controllers are there: from the start, after any list of events, the image that a unit would save is one, and the unit holds it
abbrev pub OwnImage : Type 0
OwnImage = (events : List Event) → MadeOfBytes events → let unit = run events at_start in Proper (image_of unit) × Holds unit (configuration_in (image_of unit))

-- ---- what is turned away

-- a list of accepted writes
pub data Accepts : List (List ℕ) → List ℕ → List ℕ → Type 0 where
  end : {unit : List ℕ} → Accepts [] unit unit
  next : {f : List ℕ} {frames : List (List ℕ)} {unit unit' : List ℕ} (slot word : ℕ) → Bytes f → answer unit f 8 ≡ Some (Ok (Written slot word))
      → Accepts frames (after unit (Some (Ok (Written slot word)))) unit' → Accepts (f ∷ frames) unit unit'

-- one that takes a unit to a configuration
pub record Reaches (unit words : List ℕ) : Type 0 where
  pub frames : List (List ℕ)
  pub unit' : List ℕ
  pub accepts : Accepts frames unit unit'
  pub after : Holds unit' words

-- "Given such a first image and buffer, a second one with the right count, all 611 records in place at their sizes and nothing after them is turned away
-- exactly when no list of accepted writes could reach it": from any unit that holds the first. The number is then -(10+5), range or not finite, or -(10+6), chain
abbrev pub TurnedAwayExactly : Type 0
TurnedAwayExactly =
    (current wanted buffer buffer' : List ℕ) (r : ℤ) → Proper current → Complete wanted → 5207 ≤ length buffer
    → Restored current wanted buffer buffer' r → (unit : List ℕ) → Holds unit (configuration_in current)
    → ((below r (pos 0) ≡ false) × Reaches unit (configuration_in wanted))
    ⊎ (((r ≡ neg_ℤ (pos 15)) ⊎ (r ≡ neg_ℤ (pos 16))) × (Reaches unit (configuration_in wanted) → ⊥))

-- ---- refusals, and one answer

-- "A refusal writes nothing": a number below zero leaves every byte of the buffer
abbrev pub RefusedListsWriteNothing : Type 0
RefusedListsWriteNothing =
    (current wanted buffer buffer' : List ℕ) (n : ℕ) → Restored current wanted buffer buffer' (negsuc n) → buffer' ≡ buffer

-- two answers that the contract allows are equal
abbrev pub OneList : Type 0
OneList =
    (current wanted buffer b₁ b₂ : List ℕ) (r s : ℤ) → Restored current wanted buffer b₁ r → Restored current wanted buffer b₂ s → (r ≡ s) × (b₁ ≡ b₂)
