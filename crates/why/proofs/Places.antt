-- The row that the code was given of a pair, or that there is none.
-- Assumes nothing.
use Prim.Native.Nat.{ℕ, ◌<◌, ◌≤◌}
use mathlib.Core.Bool.{Bool, true, false, not, ◌&&◌}
use mathlib.Core.List.{List}
use mathlib.Core.Path.{◌≡◌, refl, ap}
use native.Mathlib.Omega.{arith}
use borrow.Author.Tests.{ltb-true, ltb-false, lt-ltb, le-ltb}
use lib.Dec.{ltb}
use Rattle.std.specs.Prelude.{Option, Some, None}
use Rattle.numbers.specs.Choice.{first}
use Rattle.signals.specs.declared.signal.Signal.{Signal}
use Rattle.unit.specs.Sources.{sourced}
use Rattle.unit.specs.declared.pairs.Pair.{Pair}
use Rattle.signals.specs.Signal.{is_error}
use Rattle.why.specs.Answer.{signal}
use Rattle.why.proofs.Views.{error_block}
use Rattle.why.specs.Seen.{block_of, placed, before_row, taken_before, saw}

abbrev the : Option ℕ → ℕ
the (Some row) = row
the None = 16

pub a_row : (q : ℕ) {row : ℕ} → Some row ≡ placed q → (row ≡ q) × (q < 16)
unfolding placed first
a_row q {row} = by (ltb q 16) refl where
  by : (t : Bool) → ltb q 16 ≡ t → Some row ≡ first t (Some q) None → (row ≡ q) × (q < 16)
  by true e f = (ap the f, ltb-true q 16 e)
  by false e f = cc

pub no_row : (q : ℕ) → None ≡ placed q → 16 ≤ q
unfolding placed first
no_row q = by (ltb q 16) refl where
  by : (t : Bool) → ltb q 16 ≡ t → None ≡ first t (Some q) None → 16 ≤ q
  by true e f = cc
  by false e f = ltb-false q 16 e

pub is_placed : (q : ℕ) → q < 16 → Some q ≡ placed q
unfolding placed first
is_placed q h = rw (lt-ltb q 16 h)

pub not_placed : (q : ℕ) → 16 ≤ q → None ≡ placed q
unfolding placed first
not_placed q h = rw (le-ltb q 16 h)

-- ---- what a block saw of a pair, by where that pair's block stands
module _ (unit : List ℕ) (r : ℕ) (p : Pair) where
  pub saw_none : 16 ≤ block_of p → sourced unit p.source p.number ≡ saw unit r p
  unfolding saw taken_before first
  saw_none h = rw (le-ltb (block_of p) 16 h) (by (not (ltb (block_of p) r))) where
    by : (t : Bool) → sourced unit p.source p.number ≡ first (t && false) (before_row unit (block_of p)) (sourced unit p.source p.number)
    by true = refl
    by false = refl

  pub saw_now : block_of p < r → sourced unit p.source p.number ≡ saw unit r p
  unfolding saw taken_before first
  saw_now h = rw (lt-ltb (block_of p) r h)

  pub saw_before : r ≤ block_of p → block_of p < 16 → before_row unit (block_of p) ≡ saw unit r p
  unfolding saw taken_before first
  saw_before h l = rw (le-ltb (block_of p) r h, lt-ltb (block_of p) 16 l)

-- what is no block's is not in error
pub never_wrong : (unit : List ℕ) (p : Pair) → 16 ≤ block_of p → is_error (signal unit p) ≡ false
never_wrong unit p h = by (is_error (signal unit p)) refl where
  by : (t : Bool) → is_error (signal unit p) ≡ t → t ≡ false
  by true e = let low = error_block unit p e in absurd (omega arith)
  by false e = refl
