-- Judging one value for one entry, rows 7 to 9 of "Frames": the first that applies.
-- Assumes nothing.
use Rattle.std.specs.Prelude.{ℕ, ◌/◌, ◌%◌, Bool, true, false, not, List, eqb, ℤ, pos, get_or, Result, Ok, Err, ⊤}
use Rattle.std.specs.Result.{result_and}
use Rattle.numbers.specs.Choice.{first}
use Rattle.numbers.specs.Order.{below}
use Rattle.numbers.specs.Signed.{signed16}
use Rattle.roles.specs.Chains.{upper_of, lower_of}
use Rattle.roles.specs.Values.{range_of}
use Rattle.dictionary.specs.declared.types.Kind.{Kind}
use Rattle.dictionary.specs.declared.types.Kind.TheVariants.{Unsigned8, Integer16, Unsigned16, Real32, Unsigned32}
use Rattle.dictionary.specs.declared.types.Range.{Range}
use Rattle.roles.specs.declared.types.Link.{Link}
use Rattle.roles.specs.declared.types.Link.TheVariants.{Free, Loose, Strict}
use Rattle.entries.specs.declared.types.Fault.{Fault}
use Rattle.entries.specs.declared.types.Fault.TheVariants.{NotFinite, Above, Below, ChainUp, ChainDown}

-- the number that a word holds, cut to the type's width. A REAL32 and an UNSIGNED32 have no range of their own: they count as 0, in 0..0
unfoldable pub number_of : Kind → ℕ → ℤ
number_of Unsigned8 word = pos (word % 0x100)
number_of Unsigned16 word = pos (word % 0x10000)
number_of Integer16 word = signed16 word
number_of Real32 word = pos 0
number_of Unsigned32 word = pos 0

-- a REAL32 is finite unless its eight exponent bits are all ones
unfoldable pub finite : Kind → ℕ → Bool
finite Unsigned8 word = true
finite Unsigned16 word = true
finite Integer16 word = true
finite Real32 word = not (eqb (word / 0x800000 % 0x100) 0xFF)
finite Unsigned32 word = true

-- "8 above, below own range"
unfoldable pub within : ℤ → ℤ → ℤ → Result ⊤ Fault
within v low high = first (below high v) (Err Above) (first (below v low) (Err Below) (Ok tt))

-- "7 REAL32 not finite", then the range
unfoldable pub in_range : Range → ℕ → Result ⊤ Fault
in_range range word =
    first (not (finite range.kind word)) (Err NotFinite) (within (number_of range.kind word) range.low range.high)

-- what a slot holds; every member of a chain is an INTEGER16
unfoldable pub held : List ℕ → ℕ → ℤ
held words slot = signed16 (get_or words slot 0)

-- a value is past its upper neighbour's, or its lower neighbour's
unfoldable pub past_upper : List ℕ → Link → ℤ → Bool
past_upper words Free v = false
past_upper words (Loose slot) v = below (held words slot) v
past_upper words (Strict slot) v = not (below v (held words slot))

unfoldable pub past_lower : List ℕ → Link → ℤ → Bool
past_lower words Free v = false
past_lower words (Loose slot) v = below v (held words slot)
past_lower words (Strict slot) v = not (below (held words slot) v)

-- "9 breaks the chain upward, downward"
unfoldable pub in_order : List ℕ → ℕ → ℕ → Result ⊤ Fault
in_order words slot word =
    first (past_upper words (upper_of slot) (signed16 word)) (Err ChainUp)
    (first (past_lower words (lower_of slot) (signed16 word)) (Err ChainDown) (Ok tt))

-- the range decides first
unfoldable pub judged : List ℕ → ℕ → ℕ → Result ⊤ Fault
judged words slot word = result_and (in_range (range_of slot) word) (in_order words slot word)
