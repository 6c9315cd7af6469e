-- The paper's own trap, as one instance of all that demand 3 takes for given: "Restoring points upward: to move 0, 100, .. to 500, 600, ..
-- the first write (500) is refused."
-- Assumes nothing.
use Rattle.std.specs.Prelude.{ℕ, ◌≤◌, ◌≡◌, pos, length, drop}
use mathlib.Core.List.{List, [], ◌∷◌, ◌++◌, flat_map}
use Rattle.std.proofs.lemmas.List.Edits.{sets}
use Rattle.octets.specs.Little.{bytes}
use Rattle.dictionary.specs.Names.{slot_of}
use Rattle.roles.specs.Values.{at_start}
use Rattle.sdo.specs.Answers.{answer}
use Rattle.sdo.specs.Frames.{reply_to}
use Rattle.records.specs.Layout.{image_of}
use Rattle.promises.specs.Delivery.{frames_in}
use Rattle.promises.specs.Restoring.{Restoring}

-- the unit at start, but that the X of table 1 are 500, 600, .. 1500 and not 0, 100, .. 1000
unfoldable pub moved : List ℕ
moved = sets at_start (slot_of 0x3015 1) (500 ∷ 600 ∷ 700 ∷ 800 ∷ 900 ∷ 1000 ∷ 1100 ∷ 1200 ∷ 1300 ∷ 1400 ∷ 1500 ∷ [])

-- the frame that writes a point's X, and its record in a list
abbrev pub point : ℕ → ℕ → List ℕ
point sub x = 0x2B ∷ 0x15 ∷ 0x30 ∷ sub ∷ bytes 2 x ++ (0 ∷ 0 ∷ [])

abbrev pub listed_point : ℕ → ℕ → List ℕ
listed_point sub x = 0x15 ∷ 0x30 ∷ sub ∷ 2 ∷ 0 ∷ 0 ∷ 0 ∷ bytes 2 x

-- from the last point to the first
abbrev pub downward : (ℕ → ℕ → List ℕ) → List (List ℕ)
downward each =
    each 11 1500 ∷ each 10 1400 ∷ each 9 1300 ∷ each 8 1200 ∷ each 7 1100 ∷ each 6 1000 ∷ each 5 900 ∷ each 4 800 ∷ each 3 700 ∷ each 2 600 ∷ each 1 500 ∷ []

-- 11 records, 103 bytes
unfoldable pub the_list : List ℕ
the_list = 11 ∷ 0 ∷ 0 ∷ 0 ∷ flat_map (λ (r : List ℕ). r) (downward listed_point)

-- "the first write (500) is refused"; our list goes downward, and a fresh unit, its image and the wanted one are all that demand 3 takes for given
abbrev pub OutOfTheTrap : Type 0
OutOfTheTrap =
    (reply_to (point 1 500) (answer at_start (point 1 500) 8) ≡ 0x80 ∷ 0x15 ∷ 0x30 ∷ 0x01 ∷ 0x31 ∷ 0x00 ∷ 0x09 ∷ 0x06 ∷ [])
    × ((buffer : List ℕ) → 5207 ≤ length buffer → Restoring (image_of at_start) (image_of moved) buffer (the_list ++ drop 103 buffer) (pos 103) at_start)
    × (frames_in the_list ≡ downward point)
