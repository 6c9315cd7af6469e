-- What a pair (source, number) names, by what the source has.
-- Assumes nothing.
use Prim.Native.Nat.{ℕ, ◌+◌, ◌-◌, ◌*◌, ◌/◌, ◌%◌, ◌<◌, ◌≤◌}
use mathlib.Core.Bool.{Bool, true, false}
use mathlib.Core.List.{List}
use mathlib.Core.Logic.{◌⊎◌, inl, inr}
use mathlib.Core.Path.{◌≡◌, refl, ap, ◌∙◌}
use native.Mathlib.Omega.{arith}
use borrow.Author.Tests.{eqb-true, ne_eqb, lt-ltb, le-ltb}
use lib.Dec.{eqb, lit<, lit≤}
use Rattle.numbers.specs.Choice.{first}
use Rattle.signals.specs.declared.signal.Signal.{Signal}
use Rattle.signals.specs.declared.signal.Signal.TheVariants.{Whole, Real, Absent}
use Rattle.unit.specs.Entry.{whole, real}
use Rattle.unit.specs.Extent.{extent}
use Rattle.unit.specs.Held.{inputs, maths, tables, logics, held, at_row}
use Rattle.unit.specs.Sources.{among, sourced}

-- a number from 1 to the count names something
pub some_among : (count number : ℕ) (v : Signal) → 0 < number → number ≤ count → among count number v ≡ v
unfolding among first
some_among count number v low high = rw (ne_eqb number 0 (λ e. omega arith), le-ltb count number high)

-- number 0, and a number above the count
abbrev pub Nothing : ℕ → ℕ → Type 0
Nothing count number = (number ≡ 0) ⊎ (count < number)

nothing_among : (count number : ℕ) (v : Signal) → Nothing count number → among count number v ≡ Absent
unfolding among first
nothing_among count number v (inl e) = rw e
nothing_among count number v (inr h) = rw (ne_eqb number 0 (λ e. omega arith), lt-ltb count number h)

-- ---- what a source has and what it names are chosen by the same tests

pub twelve_received : (source : ℕ) → source ≡ 1 → extent source % 16 ≡ 12
unfolding extent first
twelve_received source e = rw e

pub fifteen_constants : (source : ℕ) → source ≡ 6 → extent source % 16 ≡ 15
unfolding extent first
fifteen_constants source e = rw e

both : (R : ℕ → Signal → Type 0) (b : Bool) {n m : ℕ} {v w : Signal} → (b ≡ true → R n v) → R m w → R (first b n m) (first b v w)
unfolding first
both R true here there = here refl
both R false here there = there

module _ (unit : List ℕ) (source number : ℕ) where
  by_source : (R : ℕ → Signal → Type 0) →
      (source ≡ 1 → R 12 (among 12 number (Whole (whole unit 0x2500 number)))) →
      ((kind count : ℕ) → count < 16 → kind + count ≤ 16 → R (16 * kind + count) (among count number (held unit kind number))) →
      (source ≡ 6 → R 15 (among 15 number (Real (real unit 0x5010 number)))) → R 0 Absent → R (extent source) (sourced unit source number)
  unfolding extent sourced
  by_source R received block constant none =
      both R (eqb source 1) (λ e. received (eqb-true source 1 e))
      (both R (eqb source 2) (λ e. block inputs 4 (lit< tt) (lit≤ tt))
      (both R (eqb source 3) (λ e. block tables 6 (lit< tt) (lit≤ tt))
      (both R (eqb source 4) (λ e. block logics 2 (lit< tt) (lit≤ tt))
      (both R (eqb source 5) (λ e. block maths 4 (lit< tt) (lit≤ tt))
      (both R (eqb source 6) (λ e. constant (eqb-true source 6 e)) none)))))

  -- "a pair that names nothing is not available"
  pub names_nothing : Nothing (extent source % 16) number → sourced unit source number ≡ Absent
  names_nothing =
      by_source (λ n v. Nothing (n % 16) number → v ≡ Absent)
      (λ e. nothing_among 12 number (Whole (whole unit 0x2500 number)))
      (λ kind count low high h. nothing_among count number (held unit kind number) (rw (rest kind count low) at h))
      (λ e. nothing_among 15 number (Real (real unit 0x5010 number)))
      (λ h. refl)
    where
      rest : (kind count : ℕ) → count < 16 → (16 * kind + count) % 16 ≡ count
      rest kind count low = omega arith

  -- ---- a number that the source has

  module _ (low : 0 < number) (high : number ≤ extent source % 16) where
    pub received : source ≡ 1 → sourced unit source number ≡ Whole (whole unit 0x2500 number)
    unfolding extent sourced first
    received e = rw e (some_among 12 number (Whole (whole unit 0x2500 number)) low (rw e at high))

    pub constants : source ≡ 6 → sourced unit source number ≡ Real (real unit 0x5010 number)
    unfolding extent sourced first
    constants e = rw e (some_among 15 number (Real (real unit 0x5010 number)) low (rw e at high))

    -- all others have their signals in the row of blocks
    pub in_row : (source ≡ 1 → ⊥) → (source ≡ 6 → ⊥) →
        let row = extent source / 16 + number - 1 in (row < 16) × (sourced unit source number ≡ at_row unit row)
    unfolding held
    in_row not-received not-constant =
        by_source (λ n v. number ≤ n % 16 → let row = n / 16 + number - 1 in (row < 16) × (v ≡ at_row unit row))
        (λ e. absurd (not-received e))
        block
        (λ e. absurd (not-constant e))
        (λ h. absurd (omega arith))
        high
      where
        block : (kind count : ℕ) → count < 16 → kind + count ≤ 16 → number ≤ (16 * kind + count) % 16 →
            let row = (16 * kind + count) / 16 + number - 1 in (row < 16) × (among count number (held unit kind number) ≡ at_row unit row)
        block kind count few fit h =
            let row : kind + (number - 1) ≡ (16 * kind + count) / 16 + number - 1 = omega arith in
            (omega arith, some_among count number (held unit kind number) low (omega arith) ∙ ap (at_row unit) row)
