-- One math block, as the paper's paragraph "Math" has it: every operation is REAL32's own, with one rounding.
-- Operator numbers above 5 cannot be configured; here they count as 5. Assumes nothing.
use Rattle.std.specs.Prelude.{ℕ, Bool, not, ◌&&◌, ◌||◌, eqb, ℤ, Float}
use Rattle.std.specs.Float.{binary32}
use Rattle.std.specs.Float.Ieee.{of_bits, of_int, add, sub, mul, div, neg, lt, eq}
use Rattle.numbers.specs.Choice.{first}
use Rattle.numbers.specs.Limit.{limit_real}
use Rattle.signals.specs.Signal.{is_absent, as_real}
use Rattle.signals.specs.declared.signal.Signal.{Signal}
use Rattle.signals.specs.declared.signal.Signal.TheVariants.{Whole, Real, Error, Absent}
use Rattle.math.specs.declared.Operand.{Operand}
use Rattle.math.specs.declared.Ends.{Ends}

-- 0.0, 1.0 and 100.0, and a whole number, which REAL32 holds exactly
abbrev pub zero : Float
zero = of_bits binary32 0

abbrev pub one : Float
one = of_bits binary32 0x3f80_0000

abbrev pub hundred : Float
hundred = of_bits binary32 0x42c8_0000

abbrev pub whole : ℤ → Float
whole n = of_int binary32 n

-- "(v - scaling 1) / (scaling 2 - scaling 1), limited to 0..1, times (gain / 100)"
unfoldable pub scaled : Float → ℤ → ℤ → ℤ → Float
scaled v s1 s2 gain =
    mul binary32
    (limit_real (div binary32 (sub binary32 v (whole s1)) (sub binary32 (whole s2) (whole s1))) zero one)
    (div binary32 (whole gain) hundred)

-- "0 add, 1 subtract, 2 multiply, 3 divide, 4 smaller, 5 larger (the running result where neither is)"
unfoldable pub operated : ℕ → Float → Float → Float
operated operator run x =
    first (eqb operator 0) (add binary32 run x)
    (first (eqb operator 1) (sub binary32 run x)
    (first (eqb operator 2) (mul binary32 run x)
    (first (eqb operator 3) (div binary32 run x)
    (first (eqb operator 4) (first (lt x run) x run)
    (first (lt run x) x run)))))

-- the running result; broken from an input in error or a division by zero on
pub data Running : Type 0 where
  at : Float → Running
  broken : Running

-- "Dividing by zero of either sign gives error. After every operator the result is limited to -1..1."
unfoldable pub operated_on : ℕ → Float → Running → Running
operated_on operator x broken = broken
operated_on operator x (at run) =
    first (eqb operator 3 && eq x zero) broken (at (limit_real (operated operator run x) (neg one) one))

-- "Inputs join left to right, operator k before input k+1. Any input error: error. An unavailable input is skipped with its operator."
-- As REAL32 no signal is a whole number any more.
unfoldable pub joins : ℕ → Operand → Running → Signal → Running
joins operator input run (Real v) = operated_on operator (scaled v input.ends.from input.ends.to input.gain) run
joins operator input run Error = broken
joins operator input run Absent = run
joins operator input run (Whole n) = run

unfoldable pub joined : ℕ → Operand → Running → Running
joined operator input run = joins operator input run (as_real input.signal)

-- input 1 starts the run; that it is there is asked before
unfoldable pub starts : Operand → Signal → Running
starts input (Real v) = at (scaled v input.ends.from input.ends.to input.gain)
starts input Error = broken
starts input Absent = broken
starts input (Whole n) = broken

unfoldable pub started : Operand → Running
started input = starts input (as_real input.signal)

-- "At the end it is limited to 0..1, times (4523h - 4521h), plus 4521h, limited to that pair."
unfoldable pub ended : Ends → Running → Signal
ended ends broken = Error
ended ends (at run) =
    Real (limit_real
    (add binary32 (mul binary32 (limit_real run zero one) (sub binary32 (whole ends.to) (whole ends.from))) (whole ends.from))
    (whole ends.from)
    (whole ends.to))

-- "Disabled, or input 1 not available: not available." Else the four inputs joined, with the three operators between them
unfoldable pub combined : Bool → Operand → ℕ → Operand → ℕ → Operand → ℕ → Operand → Ends → Signal
combined enabled a first-operator b second-operator c third-operator d ends =
    first (not enabled || is_absent a.signal) Absent
    (ended ends
    (joined third-operator d
    (joined second-operator c
    (joined first-operator b
    (started a)))))
