-- A configuration that may stand: every entry in its own range and in order with its chain, "true at all times".
-- Assumes nothing.
use Rattle.std.specs.Prelude.{ℕ, ◌^◌, ◌<◌, false, ◌≡◌, List, get_or, Ok}
use Rattle.dictionary.specs.Names.{configured}
use Rattle.dictionary.specs.Rows.{width}
use Rattle.roles.specs.Chains.{upper_of}
use Rattle.entries.specs.Judge.{in_range, held, past_upper}
use Rattle.roles.specs.Values.{range_of}

pub record Valid (words : List ℕ) : Type 0 where
  -- a word has no more bytes than its type
  pub sized : (slot : ℕ) → slot < configured → get_or words slot 0 < 256 ^ width (range_of slot).kind
  -- finite, not above and not below its range
  pub ranged : (slot : ℕ) → slot < configured → in_range (range_of slot) (get_or words slot 0) ≡ Ok tt
  -- not past its upper neighbour
  pub linked : (slot : ℕ) → slot < configured → past_upper words (upper_of slot) (held words slot) ≡ false
