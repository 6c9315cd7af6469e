-- A flag as the word that it is kept in.
-- Assumes nothing.
use mathlib.Core.Bool.{Bool, true, false}
use mathlib.Core.Path.{◌≡◌, refl}
use mir.Val.{bool_byte}
use Rattle.numbers.specs.Choice.{first}

pub flag_is : (on : Bool) → bool_byte on ≡ first on 1 0
unfolding first
flag_is true = refl
flag_is false = refl
