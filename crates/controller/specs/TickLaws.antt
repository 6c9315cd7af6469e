-- What a tick leaves alone, what 1001h reads after it, and what no write touches.
-- Assumes nothing.
use Rattle.std.specs.Prelude.{ℕ, ◌<◌, ◌≤◌, List, ◌≡◌, ℤ, length, get_or, set}
use Rattle.numbers.specs.Choice.{first}
use Rattle.dictionary.specs.Names.{slot_of, received_to, writable}
use Rattle.dictionary.specs.Unit.{unit_size}
use Rattle.unit.specs.Entry.{entry}
use Rattle.controller.specs.Register.{any_flagged}
use Rattle.controller.specs.Tick.{ticked}

-- the words that no block publishes: the configuration and 2500h; 5010h:1-2. 1003h:0 can be written too, but ticks change it
pub data Unpublished : ℕ → Type 0 where
  before : {slot : ℕ} → slot < received_to → Unpublished slot
  after : {slot : ℕ} → slot_of 0x5010 1 ≤ slot → slot < slot_of 0x1003 1 → Unpublished slot

-- a tick leaves every one of them as it was
abbrev pub WordsKept : Type 0
WordsKept = (samples : List ℤ) (unit : List ℕ) (slot : ℕ) → Unpublished slot → get_or (ticked samples unit) slot 0 ≡ get_or unit slot 0

-- "1001h is 21h while any input is flagged, else 0."
abbrev pub RegisterTold : Type 0
RegisterTold = (samples : List ℤ) (unit : List ℕ) → length unit ≡ unit_size → entry (ticked samples unit) 0x1001 0 ≡ first (any_flagged (ticked samples unit)) 0x21 0

-- a write to what can be written leaves the flags, and 1001h
abbrev pub FlagsUnwritten : Type 0
FlagsUnwritten = (unit : List ℕ) (slot word : ℕ) → slot < writable → any_flagged (set unit slot word) ≡ any_flagged unit

abbrev pub RegisterUnwritten : Type 0
RegisterUnwritten = (unit : List ℕ) (slot word : ℕ) → slot < writable → entry (set unit slot word) 0x1001 0 ≡ entry unit 0x1001 0
