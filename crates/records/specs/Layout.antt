-- The configuration image: "count u32, then per record index u16, sub u8, size u32, data; low byte first".
-- Assumes nothing.
use Rattle.std.specs.Prelude.{ℕ, zero, suc, ◌+◌, List, [], ◌∷◌, ◌++◌, map, take, drop}
use Rattle.octets.specs.Little.{bytes}
use Rattle.dictionary.specs.Names.{Entry, entries, configured}
use Rattle.dictionary.specs.Rows.{width, u8}
use Rattle.dictionary.specs.declared.types.Range.{Range}

-- an entry as an image lists it
pub record Listed : Type 0 where
  pub index : ℕ
  pub sub : ℕ
  pub range : Range

-- "the 611 entries ascending by index, then sub": the configuration's slots in their order
unfoldable pub listed : List Listed
unfolding entries configured
listed = map (λ (e : Entry). record { index = e.index; sub = e.sub; range = e.value.range }) (take configured entries)

-- the bytes of an entry's data
unfoldable pub size : Listed → ℕ
size e = width e.range.kind

-- the bytes of the records of some entries
unfoldable pub extent : List Listed → ℕ
extent [] = 0
extent (e ∷ es) = 7 + size e + extent es

-- an entry that is not there
abbrev pub nothing : Listed
nothing = record { index = 0; sub = 0; range = (u8 0 0 0).range }

-- the entry of a slot, and the bytes of the records before it
unfoldable pub entry : List Listed → ℕ → Listed
entry [] slot = nothing
entry (e ∷ es) zero = e
entry (e ∷ es) (suc slot) = entry es slot

unfoldable pub offset : List Listed → ℕ → ℕ
offset [] slot = 0
offset (e ∷ es) zero = 0
offset (e ∷ es) (suc slot) = 7 + size e + offset es slot

-- the record of a slot, as it stands in an image
unfoldable pub record_in : List ℕ → ℕ → List ℕ
record_in image slot = take (7 + size (entry listed slot)) (drop (4 + offset listed slot) image)

-- the record of an entry that holds a word
unfoldable pub record_of : Listed → ℕ → List ℕ
record_of e word = bytes 2 e.index ++ bytes 1 e.sub ++ bytes 4 (size e) ++ bytes (size e) word

-- the records of some entries, each with its word; a word that is not there is 0
unfoldable pub records : List Listed → List ℕ → List ℕ
records [] words = []
records (e ∷ es) [] = record_of e 0 ++ records es []
records (e ∷ es) (w ∷ ws) = record_of e w ++ records es ws

-- the image of a unit's configuration
unfoldable pub image_of : List ℕ → List ℕ
image_of words = bytes 4 configured ++ records listed words
