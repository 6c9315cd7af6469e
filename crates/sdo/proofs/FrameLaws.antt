-- A frame's data bytes, one after another.
-- Assumes nothing.
use mathlib.Core.Path.{◌≡◌, ap, ◌∙◌}
use mathlib.Core.List.{List, [], ◌∷◌}
use Prim.Native.Nat.{ℕ}
use native.Mathlib.Omega.{arith}
use lib.ListN.{length, get_or, drop}
use lib.Seq.{drop-cons}
use Rattle.octets.specs.Little.{little}
use Rattle.sdo.specs.Frames.{data_in}

-- from the fifth byte on
data_bytes : (frame : List ℕ) → length frame ≡ 8 → drop 4 frame ≡ get_or frame 4 0 ∷ get_or frame 5 0 ∷ get_or frame 6 0 ∷ get_or frame 7 0 ∷ drop 8 frame
data_bytes frame e =
    drop-cons frame 4 0 (omega arith)
    ∙ ap (λ (l : List ℕ). get_or frame 4 0 ∷ l) (drop-cons frame 5 0 (omega arith)
    ∙ ap (λ (l : List ℕ). get_or frame 5 0 ∷ l) (drop-cons frame 6 0 (omega arith)
    ∙ ap (λ (l : List ℕ). get_or frame 6 0 ∷ l) (drop-cons frame 7 0 (omega arith))))

module _ (frame : List ℕ) (e : length frame ≡ 8) (size : ℕ) where
  pub data_1 : size ≡ 1 → little (get_or frame 4 0 ∷ 0 ∷ 0 ∷ 0 ∷ []) ≡ data_in size frame
  unfolding data_in little
  data_1 s = rw (s, data_bytes frame e) (omega arith)

  pub data_2 : size ≡ 2 → little (get_or frame 4 0 ∷ get_or frame 5 0 ∷ 0 ∷ 0 ∷ []) ≡ data_in size frame
  unfolding data_in little
  data_2 s = rw (s, data_bytes frame e) (omega arith)

  pub data_4 : size ≡ 4 → little (get_or frame 4 0 ∷ get_or frame 5 0 ∷ get_or frame 6 0 ∷ get_or frame 7 0 ∷ []) ≡ data_in size frame
  unfolding data_in little
  data_4 s = rw (s, data_bytes frame e) (omega arith)
