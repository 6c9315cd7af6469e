-- One name, one slot: a write that is meant for one breakpoint never lands on another.
-- Assumes nothing.
use Rattle.std.specs.Prelude.{ℕ, ◌<◌, ◌≡◌, Ok}
use Rattle.dictionary.specs.Names.{find, index_at, sub_at, words}
use Rattle.dictionary.specs.declared.types.Named.TheVariants.{At}

-- two names that share a slot are one name
abbrev pub NamesApart : Type 0
NamesApart = (i s j t slot : ℕ) → find i s ≡ Ok (At slot) → find j t ≡ Ok (At slot) → (i ≡ j) × (s ≡ t)

-- every slot has a name, and by `NamesApart` only one
abbrev pub SlotNamed : Type 0
SlotNamed = (slot : ℕ) → slot < words → find (index_at slot) (sub_at slot) ≡ Ok (At slot)

-- so two slots never share a name
abbrev pub SlotsApart : Type 0
SlotsApart = (k slot : ℕ) → k < words → slot < words → index_at k ≡ index_at slot → sub_at k ≡ sub_at slot → k ≡ slot
