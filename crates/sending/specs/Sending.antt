-- Which entries a restore list sends, and in which order: "one record per entry whose bytes differ", and never one that its chain refuses.
-- Assumes nothing.
use Rattle.std.specs.Prelude.{ℕ, zero, suc, ◌+◌, ◌-◌, Bool, not, ◌&&◌, List, [], ◌∷◌, ◌++◌, reverse, eqb, length, get_or}
use Rattle.numbers.specs.Choice.{first}
use Rattle.numbers.specs.Order.{below}
use Rattle.dictionary.specs.Names.{configured, slot_of}
use Rattle.entries.specs.Judge.{held}

-- so many slots from one on
unfoldable pub slots_from : ℕ → ℕ → List ℕ
slots_from slot zero = []
slots_from slot (suc n) = slot ∷ slots_from (suc slot) n

-- from one slot to before another
unfoldable pub stretch : ℕ → ℕ → List ℕ
stretch from to = slots_from from (to - from)

-- the order of an image, but 7148h before 7120h: of two neighbours in a chain the upper one then always comes later
unfoldable pub order : List ℕ
unfolding configured slot_of stretch slots_from
order =
    stretch 0 (slot_of 0x7120 1) ++ stretch (slot_of 0x7148 1) (slot_of 0x7149 1)
    ++ stretch (slot_of 0x7120 1) (slot_of 0x7148 1) ++ stretch (slot_of 0x7149 1) configured

-- those slots that pass a test
unfoldable pub picked : (ℕ → Bool) → List ℕ → List ℕ
picked test [] = []
picked test (s ∷ ss) = first (test s) (s ∷ picked test ss) (picked test ss)

-- of the first configuration and the second
unfoldable pub differs : List ℕ → List ℕ → ℕ → Bool
differs a b slot = not (eqb (get_or a slot 0) (get_or b slot 0))

-- its number grows, read as chains read it; an entry in no chain may be sent at any time
unfoldable pub grows : List ℕ → List ℕ → ℕ → Bool
grows a b slot = below (held a slot) (held b slot)

unfoldable pub rises : List ℕ → List ℕ → ℕ → Bool
rises a b slot = differs a b slot && grows a b slot

unfoldable pub falls : List ℕ → List ℕ → ℕ → Bool
falls a b slot = differs a b slot && not (grows a b slot)

-- of some slots: first what rises, from the last to the first, then what falls, from the first to the last
unfoldable pub sent : List ℕ → List ℕ → List ℕ → List ℕ
sent a b slots = reverse (picked (rises a b) slots) ++ picked (falls a b) slots

unfoldable pub sends : List ℕ → List ℕ → List ℕ
sends a b = sent a b order

-- the number of entries that differ
unfoldable pub apart : List ℕ → List ℕ → ℕ
apart a b = length (picked (differs a b) (stretch 0 configured))

-- the sum of a number for each
unfoldable pub total : (ℕ → ℕ) → List ℕ → ℕ
total f [] = 0
total f (s ∷ ss) = f s + total f ss
