-- The dictionary's words in the unit as the blocks read them and publish in them: every word by its name. A parameter is cut to the width
-- of its type.
-- Assumes nothing.
use Rattle.std.specs.Prelude.{ℕ, ◌%◌, Bool, not, List, eqb, Float, ℤ, get_or, set}
use Rattle.numbers.specs.Signed.{signed16}
use Rattle.dictionary.specs.Names.{slot_of}
use Rattle.signals.specs.Words.{real_of}

-- the word of a name
unfoldable pub entry : List ℕ → ℕ → ℕ → ℕ
entry unit index sub = get_or unit (slot_of index sub) 0

-- what the word holds: an INTEGER16, an UNSIGNED8, an UNSIGNED16, a REAL32
unfoldable pub whole : List ℕ → ℕ → ℕ → ℤ
unfolding entry
whole unit index sub = signed16 (entry unit index sub)

unfoldable pub byte : List ℕ → ℕ → ℕ → ℕ
unfolding entry
byte unit index sub = entry unit index sub % 0x100

unfoldable pub time : List ℕ → ℕ → ℕ → ℕ
unfolding entry
time unit index sub = entry unit index sub % 0x10000

unfoldable pub real : List ℕ → ℕ → ℕ → Float
unfolding entry
real unit index sub = real_of (entry unit index sub)

-- an UNSIGNED8 of 0..1 that switches something on
unfoldable pub switched : List ℕ → ℕ → ℕ → Bool
unfolding byte
switched unit index sub = not (eqb (byte unit index sub) 0)

-- the unit with another word under a name
unfoldable pub publish : List ℕ → ℕ → ℕ → ℕ → List ℕ
publish unit index sub word = set unit (slot_of index sub) word
