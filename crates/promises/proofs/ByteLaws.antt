-- A value as so many bytes show it.
-- Assumes nothing.
use mathlib.Core.Path.{◌≡◌, refl}
use Prim.Native.Nat.{ℕ, ◌^◌, ◌<◌}
use native.Mathlib.Nat.{mod-eq_of_lt}
use Rattle.numbers.specs.Choice.{first}
use Rattle.dictionary.specs.Rows.{width}
use Rattle.dictionary.specs.declared.types.Kind.{Kind}
use Rattle.dictionary.specs.declared.types.Kind.TheVariants.{Unsigned8, Integer16, Unsigned16, Real32, Unsigned32}
use Rattle.sdo.specs.Frames.{cut}

-- a word that has no more bytes than its type is not cut
pub uncut : (kind : Kind) (word : ℕ) → word < 256 ^ width kind → cut word (width kind) ≡ word
unfolding width cut first
uncut Unsigned8 word h = mod-eq_of_lt h
uncut Integer16 word h = mod-eq_of_lt h
uncut Unsigned16 word h = mod-eq_of_lt h
uncut Real32 word h = refl
uncut Unsigned32 word h = refl
