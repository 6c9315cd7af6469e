-- What an output remembers, word by word: the words of output k + 1 are the k-th of their kind.
-- Assumes nothing.
use Prim.Native.Nat.{ℕ, ◌+◌, ◌-◌, ◌%◌}
use mathlib.Core.Bool.{Bool, not}
use mathlib.Core.List.{List}
use mathlib.Core.Path.{◌≡◌}
use native.Mathlib.Omega.{arith}
use borrow.Author.Tests.{eq-eqb, ne_eqb}
use lib.Dec.{eqb}
use lib.ListN.{get_or}
use Rattle.numbers.specs.Choice.{first}
use Rattle.numbers.specs.Signed.{signed16}
use Rattle.dictionary.specs.Unit.{ramp_count_at, ramp_start_at, ramp_rising_at, ramp_fv1_at, ramp_fv2_at, ramp_used_at}
use Rattle.output.specs.Output.{goes_on_counting, counted}
use Rattle.output.specs.Outputs.{motion}
use Rattle.output.specs.declared.Motion.{Motion}
use Rattle.output.specs.declared.Settings.{Settings}

module _ (unit : List ℕ) (k : ℕ) where
  row : k + 1 - 1 ≡ k
  row = omega arith

  pub count_is : (motion unit (k + 1)).count ≡ get_or unit (ramp_count_at + k) 0
  unfolding motion
  count_is = rw row

  -- while a count is kept, so is what it began with
  module _ (some : get_or unit (ramp_count_at + k) 0 ≡ 0 → ⊥) where
    pub start_is : (motion unit (k + 1)).start ≡ signed16 (get_or unit (ramp_start_at + k) 0)
    unfolding motion first
    start_is = rw (row, ne_eqb _ 0 some)

    pub rising_is : (motion unit (k + 1)).rising ≡ not (eqb (get_or unit (ramp_rising_at + k) 0 % 0x100) 0)
    unfolding motion first
    rising_is = rw (row, ne_eqb _ 0 some)

    pub fv1_is : (motion unit (k + 1)).fv1 ≡ signed16 (get_or unit (ramp_fv1_at + k) 0)
    unfolding motion first
    fv1_is = rw (row, ne_eqb _ 0 some)

    pub fv2_is : (motion unit (k + 1)).fv2 ≡ signed16 (get_or unit (ramp_fv2_at + k) 0)
    unfolding motion first
    fv2_is = rw (row, ne_eqb _ 0 some)

    pub used_is : (motion unit (k + 1)).used ≡ get_or unit (ramp_used_at + k) 0 % 0x10000
    unfolding motion first
    used_is = rw (row, ne_eqb _ 0 some)

-- a count of more than one tick went on, and so was there
pub went_on : (s : Settings) (m : Motion) (rising : Bool) (ramp : ℕ) → (counted s m rising ramp ≡ 1 → ⊥) → m.count ≡ 0 → ⊥
unfolding counted goes_on_counting first
went_on s m rising ramp more e = more (rw (eq-eqb m.count 0 e))
