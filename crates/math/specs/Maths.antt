-- The four math blocks in a tick.
-- Assumes nothing.
use Rattle.std.specs.Prelude.{ℕ, zero, suc, ◌+◌, ◌*◌, List}
use Rattle.signals.specs.Signal.{as_real}
use Rattle.signals.specs.Words.{number_of_signal}
use Rattle.signals.specs.declared.signal.Signal.{Signal}
use Rattle.math.specs.Math.{Running, joined, combined}
use Rattle.math.specs.declared.Operand.{Operand}
use Rattle.math.specs.declared.Ends.{Ends}
use Rattle.unit.specs.Entry.{whole, byte, switched, publish}
use Rattle.unit.specs.Held.{maths, lay}
use Rattle.unit.specs.Sources.{sourced}

-- "y=6..9 for math 1..4": an index of the family
abbrev pub of_math : ℕ → ℕ → ℕ
of_math index n = index + 0x100 * (5 + n)

-- "4y00h, 4y01h, 4y20h, 4y22h, 4y40h: source, number, scaling 1, 2, gain": input i of math n, its signal as REAL32
unfoldable pub operand : List ℕ → ℕ → ℕ → Operand
operand unit n i =
    record {
      signal = as_real (sourced unit (byte unit (of_math 0x4000 n) i) (byte unit (of_math 0x4001 n) i));
      ends = record { from = whole unit (of_math 0x4020 n) i; to = whole unit (of_math 0x4022 n) i };
      gain = whole unit (of_math 0x4040 n) i;
    }

-- "4y50h:1-3 operator"
unfoldable pub operator : List ℕ → ℕ → ℕ → ℕ
operator unit n k = byte unit (of_math 0x4050 n) k

-- "4521h, 4523h: scaling 1, 2 PV"
unfoldable pub ends : List ℕ → ℕ → Ends
ends unit n = record { from = whole unit 0x4521 n; to = whole unit 0x4523 n }

-- a running result joined by the next j inputs, "left to right, operator k before input k+1"
unfoldable pub joined_to : List ℕ → ℕ → Running → ℕ → Running
joined_to unit n run zero = run
joined_to unit n run (suc j) = joined (operator unit n (suc j)) (operand unit n (suc (suc j))) (joined_to unit n run j)

-- the signal of math n; "4500h math enable"
unfoldable pub math_signal : List ℕ → ℕ → Signal
math_signal unit n =
    combined (switched unit 0x4500 n)
    (operand unit n 1)
    (operator unit n 1)
    (operand unit n 2)
    (operator unit n 2)
    (operand unit n 3)
    (operator unit n 3)
    (operand unit n 4)
    (ends unit n)

-- 4530h is the signal's REAL32. "Where a block's signal has no number, its output entry reads 0."
unfoldable pub math_turn : ℕ → List ℕ → List ℕ
math_turn n unit =
    let signal = math_signal unit n in
    lay (publish unit 0x4530 n (number_of_signal (as_real signal))) maths n signal
