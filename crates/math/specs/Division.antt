-- "Dividing by zero of either sign gives error": what else makes a math block's error than an input in error.
-- Assumes nothing.
use Rattle.std.specs.Prelude.{ℕ, Bool, true, false, ◌⊎◌, ◌≡◌, Float}
use Rattle.std.specs.Float.Ieee.{eq}
use Rattle.signals.specs.Signal.{is_error, as_real}
use Rattle.signals.specs.declared.signal.Signal.TheVariants.{Real, Error}
use Rattle.math.specs.Math.{zero, scaled, combined}
use Rattle.math.specs.declared.Operand.{Operand}
use Rattle.math.specs.declared.Ends.{Ends}

-- an input that its operator divides by, and that is zero
pub record Divides (operator : ℕ) (input : Operand) : Type 0 where
  pub by : operator ≡ 3
  pub number : Float
  pub is : as_real input.signal ≡ Real number
  pub none : eq (scaled number input.ends.from input.ends.to input.gain) zero ≡ true

-- a block in error while none of its inputs is: one of inputs 2 to 4 divides by zero
abbrev pub ByDivision : Type 0
ByDivision =
    (enabled : Bool) (a b c d : Operand) (x y z : ℕ) (ends : Ends) → combined enabled a x b y c z d ends ≡ Error
    → is_error a.signal ≡ false → is_error b.signal ≡ false → is_error c.signal ≡ false → is_error d.signal ≡ false
    → Divides x b ⊎ (Divides y c ⊎ Divides z d)
