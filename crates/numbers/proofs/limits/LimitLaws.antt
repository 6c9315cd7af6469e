-- What `limit` gives of INTEGER16 and of REAL32; and laws of the whole limit that callers lean on: what is limited lies between the two limits, a value between them stays, and a larger value is never limited to a smaller one.
-- Assumes nothing.
use mathlib.Core.Bool.{Bool, true, false}
use mathlib.Core.Path.{◌≡◌, refl}
use lib.IntN.{ℤ}
use lib.Signed.{◌≤ℤ◌, ≤ℤ_refl}
use mathlib.Core.Bool.{cond}
use lib.Ieee.{Float, lt, eq}
use lib.Signed.{lt_z}
use Rattle.std.specs.Ordering.{partial_lt, is_some_and, is_lt, int_cmp, float_partial_cmp}
use Rattle.std.proofs.Common.{Less, Equal, Greater}
use Rattle.std.specs.declared.option.Option.TheVariants.{None, Some}
use Rattle.numbers.specs.Choice.{first}
use Rattle.numbers.specs.Order.{below}
use Rattle.numbers.specs.Limit.{limit_whole, limit_real, limited}
use Rattle.numbers.proofs.Orders.{not_below_is_le, le_is_not_below}
use Rattle.numbers.proofs.OrderLaws.{≤ℤ_trans}

-- ---- the order's own `<` is the test of each definition
whole_lt : (a b : Bool) → is_lt (cond a Less (cond b Greater Equal)) ≡ a
whole_lt true b = refl
whole_lt false true = refl
whole_lt false false = refl

real_lt : (a b c : Bool) → is_some_and is_lt (cond a (Some Less) (cond b (Some Equal) (cond c (Some Greater) None))) ≡ a
real_lt true b c = refl
real_lt false true c = refl
real_lt false false true = refl
real_lt false false false = refl

pub of_whole : (v low high : ℤ) → limited (partial_lt (λ (x y : ℤ). Some (int_cmp x y))) v low high ≡ limit_whole v low high
unfolding limited limit_whole below
of_whole v low high = rw (whole_lt (lt_z v low) (lt_z low v), whole_lt (lt_z high v) (lt_z v high))

pub of_real : (v low high : Float) → limited (partial_lt float_partial_cmp) v low high ≡ limit_real v low high
unfolding limited limit_real
of_real v low high = rw (real_lt (lt v low) (eq v low) (lt low v), real_lt (lt high v) (eq high v) (lt v high))

-- ---- the whole limit
module _ (v low high : ℤ) where
  pub limit_from : low ≤ℤ high → low ≤ℤ limit_whole v low high
  unfolding limit_whole first
  limit_from o = by (below v low) refl (below high v) refl
    where
      by : (s : Bool) → below v low ≡ s → (t : Bool) → below high v ≡ t → low ≤ℤ first s low (first t high v)
      by true e t f = ≤ℤ_refl low
      by false e true f = o
      by false e false f = not_below_is_le v low e

  pub limit_to : low ≤ℤ high → limit_whole v low high ≤ℤ high
  unfolding limit_whole first
  limit_to o = by (below v low) refl (below high v) refl
    where
      by : (s : Bool) → below v low ≡ s → (t : Bool) → below high v ≡ t → first s low (first t high v) ≤ℤ high
      by true e t f = o
      by false e true f = ≤ℤ_refl high
      by false e false f = not_below_is_le high v f

  pub limit_stays : low ≤ℤ v → v ≤ℤ high → limit_whole v low high ≡ v
  unfolding limit_whole first
  limit_stays o q = rw (le_is_not_below o, le_is_not_below q)

-- a larger value is limited to no smaller one
pub limit_rises : {v w : ℤ} (low high : ℤ) → low ≤ℤ high → v ≤ℤ w → limit_whole v low high ≤ℤ limit_whole w low high
unfolding limit_whole first
limit_rises {v} {w} low high o q = by (below v low) refl (below high w) refl
  where
    by : (s : Bool) → below v low ≡ s → (t : Bool) → below high w ≡ t → limit_whole v low high ≤ℤ limit_whole w low high
    by true e t f = rw e (limit_from w low high o)
    by false e true f = rw (f, le_is_not_below (≤ℤ_trans (not_below_is_le v low e) q)) (limit_to v low high o)
    by false e false f =
        rw (limit_stays v low high (not_below_is_le v low e) (≤ℤ_trans q (not_below_is_le high w f)), limit_stays w low high (≤ℤ_trans (not_below_is_le v low e) q) (not_below_is_le high w f)) q
