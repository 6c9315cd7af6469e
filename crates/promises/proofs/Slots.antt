-- What an image calls a slot, computed over all of them: the name is found at the slot, the range is the slot's own.
-- Assumes nothing.
use mathlib.Core.Path.{◌≡◌, refl, sym, ap}
use Prim.Native.Nat.{ℕ, ◌<◌}
use Rattle.dictionary.specs.Names.{configured, find}
use Rattle.dictionary.specs.Rows.{width}
use Rattle.std.specs.Prelude.{Ok}
use Rattle.dictionary.specs.declared.types.Named.TheVariants.{At}
use Rattle.std.specs.Prelude.{Ok}
use Rattle.dictionary.specs.declared.types.Range.{Range}
use Rattle.dictionary.proofs.Tabulate.{tabulate}
use Rattle.roles.specs.Values.{range_of}
use Rattle.entries.proofs.Configuration.{at_each}
use Rattle.sdo.specs.Answers.{size_of}
use Rattle.records.specs.Layout.{listed, size, entry}

names_computed : tabulate configured 0 (λ slot. find (entry listed slot).index (entry listed slot).sub) ≡ tabulate configured 0 (λ slot. Ok (At slot))
unfolding tabulate configured find entry listed
names_computed = refl

pub named : (slot : ℕ) → slot < configured → find (entry listed slot).index (entry listed slot).sub ≡ Ok (At slot)
named = at_each (λ slot. find (entry listed slot).index (entry listed slot).sub) (λ slot. Ok (At slot)) names_computed

ranges_computed : tabulate configured 0 (λ slot. (entry listed slot).range) ≡ tabulate configured 0 range_of
unfolding tabulate configured range_of entry listed
ranges_computed = refl

pub own_range : (slot : ℕ) → slot < configured → (entry listed slot).range ≡ range_of slot
own_range = at_each (λ slot. (entry listed slot).range) range_of ranges_computed

pub own_size : (slot : ℕ) → slot < configured → size_of slot ≡ size (entry listed slot)
unfolding size_of size
own_size slot h = ap (λ (r : Range). width r.kind) (sym (own_range slot h))
