-- What a block saw, told after the tick, is what it saw.
-- Assumes nothing.
use Prim.Native.Nat.{ℕ, ◌+◌, ◌-◌, ◌*◌, ◌<◌, ◌≤◌}
use mathlib.Core.Bool.{Bool, true, false, not, ◌&&◌}
use mathlib.Core.List.{List}
use mathlib.Core.Path.{◌≡◌, refl, sym, ap, ◌∙◌}
use native.Mathlib.Omega.{arith}
use borrow.Author.Tests.{lt-ltb, le-ltb, ltb-true, ltb-false}
use lib.Dec.{eqb, ltb}
use lib.IntN.{ℤ}
use lib.ListN.{length}
use Rattle.numbers.specs.Choice.{first}
use Rattle.signals.specs.Signal.{is_error}
use Rattle.signals.specs.declared.signal.Signal.{Signal}
use Rattle.signals.specs.declared.signal.Signal.TheVariants.{Whole, Real, Error, Absent}
use Rattle.dictionary.specs.Unit.{signals_at, before_at, unit_size}
use Rattle.unit.specs.Held.{blocks, place, at_row}
use Rattle.unit.specs.Sources.{sourced}
use Rattle.controller.specs.Tick.{ticked}
use Rattle.controller.specs.Turns.{row_of, seen}
use Rattle.controller.proofs.Recalled.{kept_before}
use Rattle.controller.proofs.TickLaws.{words_kept}
use Rattle.why.specs.Answer.{signal}
use Rattle.why.specs.Explains.{at_sight}
use Rattle.why.specs.Seen.{among, block_of, before_row, taken_before, saw}
use Rattle.unit.specs.declared.pairs.Pair.{Pair}
use Rattle.why.proofs.Views.{Alike, View, other, block, view}

never : (t : Bool) → (t && false) ≡ false
never true = refl
never false = refl

-- what is not taken from the last tick
this_tick : (unit : List ℕ) (r : ℕ) (p : Pair) → block_of p < r → saw unit r p ≡ signal unit p
unfolding saw taken_before signal first
this_tick unit r p h = rw (lt-ltb (block_of p) r h)

no_block : (unit : List ℕ) (r : ℕ) (p : Pair) → block_of p ≡ blocks → saw unit r p ≡ signal unit p
unfolding saw taken_before signal first
no_block unit r p e = rw (e, never (not (ltb 16 r)))

-- and what is
last_tick : (unit : List ℕ) (r : ℕ) (p : Pair) → r ≤ block_of p → block_of p < blocks → saw unit r p ≡ before_row unit (block_of p)
unfolding saw taken_before first
last_tick unit r p h l = rw (le-ltb (block_of p) r h, lt-ltb (block_of p) 16 l)

-- a table stands before row 14
table_row : (n : ℕ) → 14 ≤ block_of (record { source = 3; number = n }) → block_of (record { source = 3; number = n }) ≡ blocks
unfolding block_of among first
table_row n h = by (eqb n 0) refl (ltb 6 n) refl h where
  by : (a : Bool) → eqb n 0 ≡ a → (b : Bool) → ltb 6 n ≡ b → 14 ≤ first a 16 (first b 16 (8 + n - 1)) → first a 16 (first b 16 (8 + n - 1)) ≡ 16
  by true e b f h = refl
  by false e true f h = refl
  by false e false f h = let l = ltb-false 6 n f in absurd (omega arith)

-- ---- a signal in error is a block's

pub is_error_lem : (s : Signal) → is_error s ≡ true → s ≡ Error
is_error_lem (Whole v) e = let z : ◌≡◌ {A = ℕ} 0 1 = cc in absurd (omega arith)
is_error_lem (Real x) e = let z : ◌≡◌ {A = ℕ} 0 1 = cc in absurd (omega arith)
is_error_lem Error e = refl
is_error_lem Absent e = let z : ◌≡◌ {A = ℕ} 0 1 = cc in absurd (omega arith)

no_error : {A : Type 0} (s : Signal) → s ≡ Error → is_error s ≡ false → A
no_error s e f = let z : ◌≡◌ {A = Bool} true false = sym (ap is_error e) ∙ f in absurd (by z)
  where
    by : true ≡ false → ⊥
    by q = let z : ◌≡◌ {A = ℕ} 0 1 = cc in omega arith

-- a block seen in error was before the reader, and holds the error, or was not yet at its turn
pub names_block : (unit : List ℕ) (r : ℕ) (p : Pair) → saw unit r p ≡ Error → block_of p < blocks
names_block unit r p e = by (view p) where
  by : View p → block_of p < blocks
  by (other none right same) = no_error (signal unit p) (sym (no_block unit r p none) ∙ e) (right unit)
  by (block low row is) = low

pub holds_it : (unit : List ℕ) (r : ℕ) (p : Pair) → saw unit r p ≡ Error → block_of p < r → at_row unit (block_of p) ≡ Error
holds_it unit r p e h = by (view p) where
  by : View p → at_row unit (block_of p) ≡ Error
  by (other none right same) = no_error (signal unit p) (sym (no_block unit r p none) ∙ e) (right unit)
  by (block low row is) = sym (is unit) ∙ sym (this_tick unit r p h) ∙ e

-- a signal in error, as the outputs see it
pub by_output : (unit : List ℕ) (p : Pair) → is_error (signal unit p) ≡ true → saw unit blocks p ≡ Error
by_output unit p e = by (view p) where
  by : View p → saw unit blocks p ≡ Error
  by (other none right same) = no_error (signal unit p) (is_error_lem (signal unit p) e) (right unit)
  by (block low row is) = this_tick unit blocks p low ∙ is_error_lem (signal unit p) e

-- a logic block sees every table of this tick
pub by_tables : (unit : List ℕ) (r n : ℕ) → 14 ≤ r → let p : Pair = record { source = 3; number = n } in signal unit p ≡ Error → saw unit r p ≡ Error
by_tables unit r n late e = by (ltb (block_of (record { source = 3; number = n })) r) refl where
  by : (t : Bool) → ltb (block_of (record { source = 3; number = n })) r ≡ t → saw unit r (record { source = 3; number = n }) ≡ Error
  by true g = this_tick unit r (record { source = 3; number = n }) (ltb-true _ r g) ∙ e
  by false g = no_block unit r (record { source = 3; number = n }) (table_row n (omega (arith, ltb-false _ r g))) ∙ e

module _ (samples : List ℤ) (unit : List ℕ) (size : length unit ≡ unit_size) where
  found : (q : ℕ) → q < blocks → before_row (ticked samples unit) q ≡ at_row unit q
  unfolding before_row at_row place
  found q h =
      let e : before_at + 2 * q + 1 ≡ before_at + (2 * q + 1) = omega arith in
      let f : signals_at + 2 * q + 1 ≡ signals_at + (2 * q + 1) = omega arith in
      rw (e, f, kept_before (2 * q) (omega arith) unit size samples, kept_before (2 * q + 1) (omega arith) unit size samples)

  pub as_seen : (r : ℕ) (p : Pair) → saw (ticked samples unit) r p ≡ at_sight unit (ticked samples unit) r p
  unfolding seen first signal
  as_seen r p = by (view p) where
    alike : Alike (ticked samples unit) unit
    alike slot u = words_kept samples unit slot u

    either : signal (ticked samples unit) p ≡ signal unit p → (t : Bool) → signal (ticked samples unit) p ≡ first t (sourced (ticked samples unit) p.source p.number) (sourced unit p.source p.number)
    either same true = refl
    either same false = same

    by_turn : (row : ℕ) → block_of p ≡ row → block_of p < blocks → ((u : List ℕ) → signal u p ≡ at_row u (block_of p)) → (t : Bool) → ltb row r ≡ t
        → saw (ticked samples unit) r p ≡ first t (sourced (ticked samples unit) p.source p.number) (sourced unit p.source p.number)
    by_turn row e low is true q = this_tick (ticked samples unit) r p (omega (arith, ltb-true row r q))
    by_turn row e low is false q = last_tick (ticked samples unit) r p (omega (arith, ltb-false row r q)) low ∙ found (block_of p) low ∙ sym (is unit)

    by : View p → saw (ticked samples unit) r p ≡ first (ltb (row_of p.source p.number) r) (sourced (ticked samples unit) p.source p.number) (sourced unit p.source p.number)
    by (other none right same) = no_block (ticked samples unit) r p none ∙ either (same (ticked samples unit) unit alike) (ltb (row_of p.source p.number) r)
    by (block low row is) = by_turn (row_of p.source p.number) row low is (ltb (row_of p.source p.number) r) refl

  pub in_error_before : (r : ℕ) (p : Pair) → saw (ticked samples unit) r p ≡ Error → r ≤ block_of p → at_row unit (block_of p) ≡ Error
  in_error_before r p e h =
      let low = names_block (ticked samples unit) r p e in
      sym (found (block_of p) low) ∙ sym (last_tick (ticked samples unit) r p h low) ∙ e
