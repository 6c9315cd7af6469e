-- What is promised of going by way of a third setup, document 02 (xi): of the lists that calls of `restore_list` make of images A, B and C.
-- That "a list from one to itself is empty" is `EqualImages` of Restoring. Assumes nothing.
use Rattle.std.specs.Prelude.{ℕ, ◌+◌, ◌<◌, ◌≤◌, ◌⊎◌, ◌≡◌, List, ℤ, length, get_or, take}
use Rattle.octets.specs.Little.{little}
use Rattle.dictionary.specs.Names.{configured}
use Rattle.records.specs.Layout.{image_of}
use Rattle.image.specs.Reading.{configuration_in}
use Rattle.sending.specs.ByWay.{aside}
use Rattle.promises.specs.Delivery.{frames_in}
use Rattle.promises.specs.Restoring.{Called, list_left, Holds, Sent}

-- "for complete, ordered images": a call of `restore_list` on two of them, with the buffer that was lent to it, what it left there and what it returned
pub record Call (current wanted : List ℕ) : Type 0 where
  pub buffer : List ℕ
  pub buffer' : List ℕ
  pub r : ℤ
  pub called : Called current wanted buffer buffer' r

-- the count that its list begins with
abbrev pub count : {current wanted : List ℕ} → Call current wanted → ℕ
count call = little (take 4 call.buffer')

-- its list's records as frames
abbrev pub frames : {current wanted : List ℕ} → Call current wanted → List (List ℕ)
frames call = frames_in (list_left call.r call.buffer')

-- what an entry holds in an image
abbrev pub held_in : List ℕ → ℕ → ℕ
held_in image slot = get_or (configuration_in image) slot 0

-- "there and back have equal counts"
abbrev pub ThereAndBack : Type 0
ThereAndBack = (a b : List ℕ) (there : Call a b) (back : Call b a) → count there ≡ count back

-- "the count from A to C is at most A to B plus B to C, equal exactly when every entry holds in B what it holds in A or in C": by its bytes, so -0 and +0 are two values
abbrev pub ByWay : Type 0
ByWay =
    (a b c : List ℕ) (first : Call a b) (second : Call b c) (direct : Call a c)
    → let no-third-value : Type 0 = (slot : ℕ) → slot < configured → (held_in b slot ≡ held_in a slot) ⊎ (held_in b slot ≡ held_in c slot) in
    (count direct ≤ count first + count second)
    × (no-third-value → count direct ≡ count first + count second)
    × (count direct ≡ count first + count second → no-third-value)

-- what the way costs more, in writes: the number of entries that B holds otherwise than A and otherwise than C, those that A and C share counted twice
abbrev pub CostOfTheWay : Type 0
CostOfTheWay =
    (a b c : List ℕ) (first : Call a b) (second : Call b c) (direct : Call a c)
    → length (frames first) + length (frames second) ≡ length (frames direct) + aside (configuration_in a) (configuration_in b) (configuration_in c)

-- "and sending both lists leaves what the direct one leaves": whatever comes before, between and after their frames but no other configuration write (`Sent`), the same
-- configuration, and the same image, should it be saved. What ticks remember depends on when they came
abbrev pub SameEnd : Type 0
SameEnd =
    (a b c : List ℕ) (first : Call a b) (second : Call b c) (direct : Call a c) (unit : List ℕ) → Holds unit (configuration_in a)
    → (midway by_way at_once : List ℕ) → Sent (frames first) unit midway → Sent (frames second) midway by_way → Sent (frames direct) unit at_once
    → (take configured by_way ≡ take configured at_once) × (image_of by_way ≡ image_of at_once)
