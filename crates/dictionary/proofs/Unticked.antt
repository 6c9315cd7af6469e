-- Where the signals that a tick found and the mark of a tick stand, and a unit that forgets its tick: every other word is as it was. Whoever has
-- to know where they stand asks here, so that words that come to stand before them move this file alone.
-- Assumes nothing.
use Prim.Native.Nat.{ℕ, ◌+◌, ◌<◌, ◌≤◌}
use mathlib.Core.List.{List}
use mathlib.Core.Path.{◌≡◌}
use native.Mathlib.Omega.{arith}
use lib.ListN.{length, get_or, length-set}
use lib.Seq.{get_or-set_same, get_or-set_other}
use Rattle.dictionary.specs.Names.{words}
use Rattle.dictionary.specs.Unit.{signals_at, runs_at, flags_at, ramps_at, before_at, ticked_at, unit_size, unticked}

pub signals_behind : words ≤ signals_at
unfolding signals_at
signals_behind = omega arith

pub ramps_before : ramps_at + 24 ≡ before_at
unfolding ramps_at before_at
ramps_before = omega arith

pub flags_before : flags_at + 4 ≤ before_at
unfolding ramps_at
flags_before = omega (arith, ramps_before)

pub runs_before : runs_at + 4 ≤ before_at
unfolding flags_at
runs_before = omega (arith, flags_before)

pub signals_before : signals_at + 32 ≤ before_at
unfolding runs_at
signals_before = omega (arith, runs_before)

pub mark_behind : before_at + 32 ≡ ticked_at
unfolding ticked_at
mark_behind = omega arith

pub mark_inside : ticked_at < unit_size
unfolding unit_size
mark_inside = omega arith

module _ (unit : List ℕ) where
  pub forgets_only : (k : ℕ) → (k ≡ ticked_at → ⊥) → get_or (unticked unit) k 0 ≡ get_or unit k 0
  unfolding unticked
  forgets_only k other = get_or-set_other unit ticked_at k 0 0 other

  pub words_stay : (k : ℕ) → k < words → get_or (unticked unit) k 0 ≡ get_or unit k 0
  words_stay k h = forgets_only k (λ e. omega (arith, signals_behind, signals_before, mark_behind))

  pub length_stays : length (unticked unit) ≡ length unit
  unfolding unticked
  length_stays = length-set unit ticked_at 0

  pub forgotten : length unit ≡ unit_size → get_or (unticked unit) ticked_at 0 ≡ 0
  unfolding unticked
  forgotten size = get_or-set_same unit ticked_at 0 0 (omega (arith, mark_inside))
