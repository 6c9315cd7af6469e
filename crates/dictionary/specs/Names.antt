-- The names in order, their slots, and what an index with a sub-index names.
-- Assumes nothing.
use Rattle.std.specs.Prelude.{ℕ, zero, suc, ◌+◌, ◌-◌, max, Bool, ◌&&◌, eqb, ltb, leb, length, get_or, Result, Ok, Err}
use mathlib.Core.List.{List, [], ◌∷◌, ◌++◌, map, flat_map}
use Rattle.numbers.specs.Choice.{first}
use Rattle.dictionary.specs.Rows.{Row, Value, width, configuration, tables, logics, conditions, maths, received, cleared, read_only, condition, axis_or_response, operator}
use Rattle.dictionary.specs.declared.types.Named.{Named}
use Rattle.dictionary.specs.declared.types.Named.TheVariants.{Count, At}
use Rattle.dictionary.specs.declared.types.Missing.{Missing}
use Rattle.dictionary.specs.declared.types.Missing.TheVariants.{Index, Sub}

-- rows ascending by index
unfoldable pub insert : Row → List Row → List Row
insert r [] = r ∷ []
insert r (s ∷ rows) = first (ltb r.index s.index) (r ∷ s ∷ rows) (s ∷ insert r rows)

unfoldable pub ascending : List Row → List Row
ascending [] = []
ascending (r ∷ rows) = insert r (ascending rows)

-- all rows as the slots have them: the configuration ascending, then the EC values, then 1003h:0, then what can only be read
unfoldable pub rows : List Row
unfolding configuration tables logics conditions maths received cleared read_only ascending insert first flat_map
rows = ascending configuration ++ received ++ cleared ++ read_only

-- an entry: a name and what it holds
pub record Entry : Type 0 where
  pub index : ℕ
  pub sub : ℕ
  pub value : Value

-- the entries of a row from one sub on, so many
unfoldable pub entries_from : Row → ℕ → ℕ → List Entry
entries_from r sub zero = []
entries_from r sub (suc n) = record { index = r.index; sub = sub; value = r.holds sub } ∷ entries_from r (suc sub) n

unfoldable pub entries_of : Row → List Entry
entries_of r = entries_from r r.from (suc r.to - r.from)

-- all entries; the place of one in this list is its slot
unfoldable pub entries : List Entry
unfolding rows entries_of entries_from condition axis_or_response operator
entries = flat_map entries_of rows

-- the slots below the first number are the configuration, those below the second this or EC values, those below the third can be written,
-- those below the fourth can be read
unfoldable pub configured : ℕ
unfolding configuration tables logics conditions maths received flat_map entries_of entries_from
configured = length (flat_map entries_of configuration)

unfoldable pub received_to : ℕ
unfolding configured
received_to = configured + length (flat_map entries_of received)

unfoldable pub writable : ℕ
unfolding received_to cleared
writable = received_to + length (flat_map entries_of cleared)

unfoldable pub words : ℕ
unfolding entries
words = length entries

-- the bytes of data of some entries
unfoldable pub bytes_of : List Entry → ℕ
unfolding width
bytes_of [] = 0
bytes_of (e ∷ es) = width e.value.range.kind + bytes_of es

unfoldable pub configured_bytes : ℕ
unfolding configured bytes_of condition axis_or_response operator first
configured_bytes = bytes_of (flat_map entries_of configuration)

-- the name that stands at a slot
unfoldable pub index_at : ℕ → ℕ
unfolding entries
index_at slot = get_or (map (λ (e : Entry). e.index) entries) slot 0

unfoldable pub sub_at : ℕ → ℕ
unfolding entries
sub_at slot = get_or (map (λ (e : Entry). e.sub) entries) slot 0

-- a stretch of subs of one index, and the slot of the first of them
pub record Stretch : Type 0 where
  pub index : ℕ
  pub from : ℕ
  pub to : ℕ
  pub slot : ℕ

-- a row's first slot is the number of entries before it
unfoldable pub stretches_from : ℕ → List Row → List Stretch
stretches_from slot [] = []
stretches_from slot (r ∷ rows) =
    record { index = r.index; from = r.from; to = r.to; slot = slot } ∷ stretches_from (slot + (suc r.to - r.from)) rows

unfoldable pub stretches : List Stretch
unfolding rows stretches_from
stretches = stretches_from 0 rows

-- those with an index
unfoldable pub with_index : ℕ → List Stretch → List Stretch
with_index index [] = []
with_index index (s ∷ ss) = first (eqb s.index index) (s ∷ with_index index ss) (with_index index ss)

-- "the largest sub-index"
unfoldable pub largest : List Stretch → ℕ
largest [] = 0
largest (s ∷ ss) = max s.to (largest ss)

-- the slot of a sub
unfoldable pub at_sub : List Stretch → ℕ → Result Named Missing
at_sub [] sub = Err Sub
at_sub (s ∷ ss) sub = first (leb s.from sub && leb sub s.to) (Ok (At (s.slot + (sub - s.from)))) (at_sub ss sub)

-- "For a VAR, sub 0 is the value. For an ARRAY, sub 0 is the largest sub-index": its values begin behind sub 0.
-- 1003h:0 is "unlike other arrays'" a value
unfoldable pub named : List Stretch → ℕ → Result Named Missing
named [] sub = Err Index
named (s ∷ ss) sub =
    first (eqb sub 0 && ltb 0 s.from) (Ok (Count (largest (s ∷ ss)))) (at_sub (s ∷ ss) sub)

-- what an index with a sub-index names
unfoldable pub find : ℕ → ℕ → Result Named Missing
unfolding stretches with_index named at_sub largest first
find index sub = named (with_index index stretches) sub

-- the slot of a name that has one
abbrev pub slot_found : Result Named Missing → ℕ
slot_found (Err missing) = 0
slot_found (Ok (Count n)) = 0
slot_found (Ok (At slot)) = slot

unfoldable pub slot_of : ℕ → ℕ → ℕ
unfolding find
slot_of index sub = slot_found (find index sub)

-- 1003h in a unit (document 02, viii): "a sub above the number kept gives 06090011h, in order 4"
unfoldable pub hidden : List ℕ → ℕ → ℕ → Bool
hidden unit index sub = eqb index 0x1003 && ltb (get_or unit (slot_of 0x1003 0) 0) sub

-- what a name stands for in a unit as it is now
unfoldable pub sought : List ℕ → ℕ → ℕ → Result Named Missing
sought unit index sub = first (hidden unit index sub) (Err Sub) (find index sub)
