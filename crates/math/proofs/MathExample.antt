-- The bench's example: math 1 enabled with input 1 from EC 1 = 500 gives 43FA0000h.
-- Assumes nothing.
use mathlib.Core.Bool.{true}
use mathlib.Core.Path.{◌≡◌, refl}
use lib.IntN.{pos}
use lib.Ieee.{binary32, of_bits, of_int, add, sub, mul, div, neg, lt, eq}
use Rattle.numbers.specs.Choice.{first}
use Rattle.numbers.specs.Limit.{limit_real}
use Rattle.signals.specs.Signal.{as_real}
use Rattle.math.specs.Math.{combined, ended, joined, joins, started, starts, operated_on, operated, scaled}
use Rattle.signals.specs.declared.signal.Signal.{Signal}
use Rattle.signals.specs.declared.signal.Signal.TheVariants.{Whole, Real, Absent}
use Rattle.math.specs.declared.Operand.{Operand}
use Rattle.math.specs.declared.Ends.{Ends}

-- an input at its default scaling and gain
abbrev from : Signal → Operand
from s = record { signal = s; ends = record { from = pos 0; to = pos 1000 }; gain = pos 100 }

abbrev thousand : Ends
thousand = record { from = pos 0; to = pos 1000 }

-- the default operators: 0, add
pub half : combined true (from (Whole (pos 500))) 0 (from Absent) 0 (from Absent) 0 (from Absent) thousand ≡ Real (of_bits binary32 0x43fa_0000)
unfolding combined ended joined joins started starts operated_on operated scaled limit_real first as_real of_bits of_int add sub mul div neg lt eq
half = refl
