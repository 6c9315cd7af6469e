-- A slot past the last reads 0, whichever it is.
-- Assumes nothing.
use Prim.Native.Nat.{ℕ, ◌≤◌}
use mathlib.Core.List.{List}
use mathlib.Core.Path.{◌≡◌, sym, ◌∙◌}
use lib.ListN.{length, get_or, get_or-eq_default}

pub past : (unit : List ℕ) {i j : ℕ} → length unit ≤ j → length unit ≤ i → get_or unit j 0 ≡ get_or unit i 0
past unit h l = get_or-eq_default unit 0 h ∙ sym (get_or-eq_default unit 0 l)
