-- What each slot holds: its type and range, and its word at start; and the whole unit at start.
-- Assumes nothing.
use Rattle.std.specs.Prelude.{ℕ, ◌-◌, List, ◌++◌, map, get_or, replicate}
use Rattle.dictionary.specs.Rows.{u8}
use Rattle.dictionary.specs.Names.{Entry, entries, words}
use Rattle.dictionary.specs.Unit.{unit_size}
use Rattle.dictionary.specs.declared.types.Range.{Range}

-- the type and range of a slot; past the last one UNSIGNED8 0..0
unfoldable pub range_of : ℕ → Range
unfolding entries
range_of slot = get_or (map (λ (e : Entry). e.value.range) entries) slot (u8 0 0 0).range

-- what every slot holds at start
unfoldable pub starts : List ℕ
unfolding entries
starts = map (λ (e : Entry). e.value.start) entries

-- the unit at start: no run, no flag, every signal "not available", which is kind 0
unfoldable pub at_start : List ℕ
at_start = starts ++ replicate (unit_size - words) 0
