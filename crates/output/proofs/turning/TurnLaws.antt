-- On and off turned round: what `turned` gives for a number is what the definitions say, and what is no number is neither.
-- Assumes nothing.
use Prim.Native.Nat.{ℕ, suc, ◌-◌}
use mathlib.Core.Bool.{Bool, true, false, not}
use mathlib.Core.Path.{◌≡◌, refl, sym}
use native.Mathlib.Omega.{arith}
use borrow.Author.Tests.{ne_eqb}
use lib.Dec.{eqb}
use lib.IntN.{ℤ, pos, negsuc}
use mir.Syntax.{w16}
use mir.Val.{SFits, of_z}
use Rattle.numbers.specs.Choice.{first}
use Rattle.numbers.proofs.Choices.{either}
use Rattle.output.specs.Turning.{is_zero, is_on, is_off, turned_on, turned_off}
use Rattle.signals.specs.declared.signal.Signal.{Signal}

-- the bits of a whole number are 0 exactly where it is 0
pub zero_bits : (v : ℤ) → SFits w16 v → is_zero v ≡ eqb (of_z w16 v) 0
unfolding is_zero
zero_bits (pos n) f = refl
zero_bits (negsuc n) f = sym (ne_eqb (65536 - suc n) 0 (λ e. omega (arith, f.sfits)))

twice : (b : Bool) → not (not b) ≡ b
twice true = refl
twice false = refl

module _ (response : ℕ) (s : Signal) where
  -- for a number: off by the code's test, on by its opposite
  module _ {r off : Bool} (is-off : is_off s ≡ off) (is_on_lem : is_on s ≡ not off) where
    pub number_on : r ≡ first (eqb response 1) (not (not off)) (not off) → r ≡ turned_on response s
    unfolding turned_on
    number_on e = rw (is-off, is_on_lem) (rw (twice off) at e)

    pub number_off : r ≡ first (eqb response 1) (not off) off → r ≡ turned_off response s
    unfolding turned_off
    number_off e = rw (is-off, is_on_lem) e

  -- what is no number
  module _ (not-off : is_off s ≡ false) (not_on : is_on s ≡ false) where
    pub none_on : false ≡ turned_on response s
    unfolding turned_on
    none_on = rw (not-off, not_on, either (eqb response 1) false)

    pub none_off : false ≡ turned_off response s
    unfolding turned_off
    none_off = rw (not-off, not_on, either (eqb response 1) false)
