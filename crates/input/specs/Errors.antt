-- The error list, object 1003h, of document 02 (viii): "Keep the last 8 flaggings beside the inputs, newest at sub 1".
-- Assumes nothing.
use Rattle.std.specs.Prelude.{ℕ, ◌+◌, ◌*◌, min, Bool, ◌&&◌, not, List, ◌∷◌, take, drop}
use Rattle.std.proofs.lemmas.List.Edits.{sets}
use Rattle.numbers.specs.Choice.{first}
use Rattle.dictionary.specs.Names.{slot_of}
use Rattle.unit.specs.Entry.{entry, publish}

-- "code in the low half, input number in the high half; the code is FF00h"
unfoldable pub error : ℕ → ℕ
error n = 0xFF00 + 0x10000 * n

-- the words of 1003h:1-8
unfoldable pub eight : List ℕ → List ℕ
eight unit = take 8 (drop (slot_of 0x1003 1) unit)

-- the list, newest first: "Sub 0 .. is the number kept and always agrees with the list"
unfoldable pub errors : List ℕ → List ℕ
errors unit = take (entry unit 0x1003 0) (eight unit)

-- the flagging of input n enters in front of the others, and the ninth falls out
unfoldable pub entered : List ℕ → ℕ → List ℕ
entered unit n =
    publish (sets unit (slot_of 0x1003 1) (error n ∷ take 7 (eight unit))) 0x1003 0 (min (entry unit 0x1003 0 + 1) 8)

-- a flagging: the input is flagged and was not
unfoldable pub flagging : Bool → Bool → Bool
flagging was is = is && not was

unfoldable pub noted : List ℕ → ℕ → Bool → Bool → List ℕ
noted unit n was is = first (flagging was is) (entered unit n) unit
