-- A line told by its length, its first letter and the byte after it.
-- Assumes nothing.
use Prim.Native.Nat.{ℕ, ◌<◌, ◌≤◌}
use mathlib.Core.Bool.{Bool, true, false}
use mathlib.Core.List.{List, [], ◌∷◌}
use mathlib.Core.Path.{◌≡◌, refl, ap, ◌∙◌}
use native.Mathlib.Omega.{arith}
use borrow.Author.Tests.{ne_eqb, eqb-true, eqb-false}
use lib.Dec.{eqb}
use lib.ListN.{length, take, drop, get_or}
use lib.Seq.{drop-cons}
use Rattle.numbers.specs.Choice.{first}
use Rattle.printer.specs.Reading.{ahead, fields, letter, unknown, asked_frame, asked_tick, asked_by, asked}
use Rattle.printer.proofs.Cutting.{cut, span, following}

-- a letter alone asks for nothing
alone : (s t : Bool) → first s (asked_frame []) (first t (asked_tick []) unknown) ≡ unknown
unfolding asked_frame asked_tick first
alone true t = refl
alone false true = refl
alone false false = refl

pub line_short : (l : List ℕ) → length l < 2 → asked l ≡ unknown
unfolding asked asked_by fields ahead letter first
line_short [] h = refl
line_short (b ∷ []) h = go (eqb b 0x20) where
  go : (t : Bool) → asked_by (first t ([] ∷ [] ∷ []) ((b ∷ []) ∷ [])) ≡ unknown
  go true = refl
  go false = alone (eqb b 0x53) (eqb b 0x54)
line_short (b ∷ d ∷ rest) h = absurd (omega arith)

-- a line of two bytes and more
module _ (b d : ℕ) (rest : List ℕ) where
  -- with no space after its first byte the first field is no letter
  joined : (d ≡ 0x20 → ⊥) → asked (b ∷ d ∷ rest) ≡ unknown
  unfolding asked asked_by fields ahead letter first
  joined e = rw (ne_eqb d 0x20 e, cut rest) (go (eqb b 0x20)) where
    f : List (List ℕ)
    f = (d ∷ take (span rest) rest) ∷ following (drop (span rest) rest)

    go : (t : Bool) → asked_by (first t ([] ∷ f) (ahead b f)) ≡ unknown
    go true = refl
    go false = refl

  by_frame : d ≡ 0x20 → b ≡ 0x53 → asked (b ∷ d ∷ rest) ≡ asked_frame (fields rest)
  unfolding asked asked_by fields ahead letter first
  by_frame e s = rw (s, e)

  by_tick : d ≡ 0x20 → b ≡ 0x54 → asked (b ∷ d ∷ rest) ≡ asked_tick (fields rest)
  unfolding asked asked_by fields ahead letter first
  by_tick e s = rw (s, e)

  by_none : d ≡ 0x20 → (b ≡ 0x53 → ⊥) → (b ≡ 0x54 → ⊥) → asked (b ∷ d ∷ rest) ≡ unknown
  unfolding asked asked_by fields ahead letter first
  by_none e s t = rw e (go (eqb b 0x20)) where
    go : (u : Bool) → asked_by (first u ([] ∷ [] ∷ fields rest) ((b ∷ []) ∷ fields rest)) ≡ unknown
    go true = refl
    go false = rw (ne_eqb b 0x53 s, ne_eqb b 0x54 t)

-- the same of a line by its places
module _ (l : List ℕ) (h : 2 ≤ length l) where
  split : l ≡ get_or l 0 0 ∷ get_or l 1 0 ∷ drop 2 l
  split = drop-cons l 0 0 (omega arith) ∙ ap (λ (r : List ℕ). get_or l 0 0 ∷ r) (drop-cons l 1 0 (omega arith))

  pub line_frame : get_or l 1 0 ≡ 0x20 → get_or l 0 0 ≡ 0x53 → asked l ≡ asked_frame (fields (drop 2 l))
  line_frame e s = ap asked split ∙ by_frame (get_or l 0 0) (get_or l 1 0) (drop 2 l) e s

  pub line_tick : get_or l 1 0 ≡ 0x20 → get_or l 0 0 ≡ 0x54 → asked l ≡ asked_tick (fields (drop 2 l))
  line_tick e s = ap asked split ∙ by_tick (get_or l 0 0) (get_or l 1 0) (drop 2 l) e s

-- a line that begins neither with S nor with T and a space
pub line_none : (l : List ℕ) → (get_or l 1 0 ≡ 0x20 → get_or l 0 0 ≡ 0x53 → ⊥) → (get_or l 1 0 ≡ 0x20 → get_or l 0 0 ≡ 0x54 → ⊥) → asked l ≡ unknown
line_none [] s t = line_short [] (omega arith)
line_none (b ∷ []) s t = line_short (b ∷ []) (omega arith)
line_none (b ∷ d ∷ rest) s t = go (eqb d 0x20) refl where
  go : (u : Bool) → eqb d 0x20 ≡ u → asked (b ∷ d ∷ rest) ≡ unknown
  go true p = let e = eqb-true d 0x20 p in by_none b d rest e (s e) (t e)
  go false p = joined b d rest (eqb-false d 0x20 p)
