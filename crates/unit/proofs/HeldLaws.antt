-- A signal that was laid down is read back, and nothing else has changed.
-- Assumes nothing.
use Prim.Native.Nat.{ℕ, ◌+◌, ◌-◌, ◌<◌}
use mathlib.Core.Bool.{Bool, true, false}
use mathlib.Core.List.{List}
use mathlib.Core.Path.{◌≡◌, refl, ◌∙◌}
use native.Mathlib.Omega.{arith}
use borrow.Author.Tests.{lt-ltb}
use lib.Dec.{ltb}
use lib.ListN.{length, get_or, set, length-set}
use lib.Seq.{get_or-set_same, get_or-set_other}
use Rattle.numbers.specs.Choice.{first}
use Rattle.dictionary.specs.Unit.{runs_at, flags_at, unit_size}
use Rattle.signals.specs.declared.signal.Signal.{Signal}
use Rattle.signals.specs.Words.{kind_of, number_of_signal}
use Rattle.signals.proofs.keeping.WordLaws.{Kept, read_back}
use Rattle.unit.specs.Held.{place, at_row, laid, held, lay}

module _ (unit : List ℕ) (row : ℕ) (s : Signal) where
  -- whether the row is a block's or not
  either : (P : List ℕ → Type 0) → P (set (set unit (place row) (kind_of s)) (place row + 1) (number_of_signal s)) → P unit → P (laid unit row s)
  unfolding laid first
  either P inside outside = choose (ltb row 16)
    where
      choose : (b : Bool) → P (first b (set (set unit (place row) (kind_of s)) (place row + 1) (number_of_signal s)) unit)
      choose true = inside
      choose false = outside

  pub laid_length : length (laid unit row s) ≡ length unit
  laid_length =
      either (λ u. length u ≡ length unit)
      (length-set (set unit (place row) (kind_of s)) (place row + 1) (number_of_signal s) ∙ length-set unit (place row) (kind_of s)) refl

  -- every word outside the signal's two is as it was
  pub laid_other : (slot : ℕ) → (slot ≡ place row → ⊥) → (slot ≡ place row + 1 → ⊥) → get_or (laid unit row s) slot 0 ≡ get_or unit slot 0
  laid_other slot a b =
      either (λ u. get_or u slot 0 ≡ get_or unit slot 0)
      (get_or-set_other (set unit (place row) (kind_of s)) (place row + 1) slot (number_of_signal s) 0 b ∙ get_or-set_other unit (place row) slot (kind_of s) 0 a) refl

  -- so the signal of another row
  pub other_row : (other : ℕ) → (other ≡ row → ⊥) → at_row (laid unit row s) other ≡ at_row unit other
  unfolding at_row place
  other_row other n = rw (laid_other (place other) (λ e. omega arith) (λ e. omega arith), laid_other (place other + 1) (λ e. omega arith) (λ e. omega arith))

  -- two words keep a signal
  pub same_row : Kept s → length unit ≡ unit_size → row < 16 → at_row (laid unit row s) row ≡ s
  unfolding at_row laid first unit_size flags_at runs_at place
  same_row kept size h =
      let once = set unit (place row) (kind_of s) in
      let long : length once ≡ length unit = length-set unit (place row) (kind_of s) in
      rw (
        lt-ltb row 16 h,
        get_or-set_other once (place row + 1) (place row) (number_of_signal s) 0 (λ e. omega arith),
        get_or-set_same unit (place row) (kind_of s) 0 (omega arith),
        get_or-set_same once (place row + 1) (number_of_signal s) 0 (omega arith),
      ) (read_back s kept)

-- what a block laid down is what it holds
pub laid_down : (unit : List ℕ) (kind n : ℕ) (s : Signal) → Kept s → length unit ≡ unit_size → kind + (n - 1) < 16 → held (lay unit kind n s) kind n ≡ s
unfolding held lay
laid_down unit kind n s = same_row unit (kind + (n - 1)) s
