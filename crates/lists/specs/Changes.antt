-- What a restore list from a current to a wanted image holds, and where its records begin in the wanted image.
-- Assumes nothing.
use Rattle.std.specs.Prelude.{ℕ, ◌+◌, ◌-◌, ◌≡◌, length, Result, Ok, Err, ⊤}
use mathlib.Core.List.{List, ◌++◌, map, flat_map}
use Rattle.std.proofs.lemmas.List.Edits.{sets}
use Rattle.octets.specs.Little.{bytes}
use Rattle.dictionary.specs.Names.{configured}
use Rattle.records.specs.Layout.{listed, offset, record_in}
use Rattle.image.specs.Reading.{reading, configuration_in}
use Rattle.sending.specs.Sending.{order, picked, rises, falls, sends}
use Rattle.lists.specs.declared.changes.types.Noted.{Noted}
use Rattle.lists.specs.declared.types.Unmade.{Unmade}
use Rattle.lists.specs.declared.types.Unmade.TheVariants.{Current, Wanted}
use Rattle.records.specs.declared.types.Refusal.{Refusal}

-- the slots of the entries to send, in their order
unfoldable pub changes : List ℕ → List ℕ → List ℕ
changes current wanted = sends (configuration_in current) (configuration_in wanted)

-- "one record per entry whose bytes differ", handed on as it stands in the wanted image
unfoldable pub list_of : List ℕ → List ℕ → List ℕ
list_of current wanted = bytes 4 (length (changes current wanted)) ++ flat_map (record_in wanted) (changes current wanted)

-- where the record of a slot begins in an image
unfoldable pub place_of : ℕ → ℕ
place_of slot = 4 + offset listed slot

unfoldable pub places : List ℕ → List ℕ → List ℕ
places current wanted = map place_of (changes current wanted)

-- what rises stands before the middle of the notes, what falls behind it
unfoldable pub noted : List ℕ → List ℕ → Noted
noted current wanted =
    record {
      low = configured - length (picked (rises (configuration_in current) (configuration_in wanted)) order);
      high = configured + length (picked (falls (configuration_in current) (configuration_in wanted)) order);
      long = length (list_of current wanted);
    }

-- "current read first"
unfoldable pub found : Result ⊤ Refusal → Result ⊤ Refusal → Noted → Result Noted Unmade
found (Err why) other n = Err (Current why)
found (Ok _) (Err why) n = Err (Wanted why)
found (Ok _) (Ok _) n = Ok n

-- a refusal notes nothing
unfoldable pub noting : Result Noted Unmade → List ℕ → List ℕ → List ℕ
noting (Ok n) notes ps = sets notes n.low ps
noting (Err why) notes ps = notes

pub record Finding (current wanted notes notes' : List ℕ) (r : Result Noted Unmade) : Type 0 where
  pub answered : r ≡ found (reading current) (reading wanted) (noted current wanted)
  pub laid : notes' ≡ noting r notes (places current wanted)
