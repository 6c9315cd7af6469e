-- What valve makers have in writing of a table at work: of its signal, and of what 30z7h reads, after a tick of a controller that runs.
-- Assumes nothing.
use Rattle.std.specs.Prelude.{ℕ, ◌+◌, ◌<◌, true, List, ◌≡◌, ℤ, Float, ◌≤ℤ◌}
use Rattle.std.specs.Float.Ieee.{le}
use Rattle.signals.specs.Signal as signals
use Rattle.signals.specs.declared.signal.Signal.{Signal}
use Rattle.signals.specs.declared.signal.Signal.TheVariants.{Whole, Real}
use Rattle.roles.specs.Values.{at_start}
use Rattle.unit.specs.Entry.{whole, byte}
use Rattle.unit.specs.Held.{tables, held}
use Rattle.table.specs.Curves.{NotFalling, begins_at, ends_at, Between}
use Rattle.table.specs.Table.{value, used}
use Rattle.table.specs.Tables.{of_table, eleven}
use Rattle.controller.specs.Tick.{ticked}
use Rattle.controller.specs.Turns.{seen}
use Rattle.promises.specs.Running.{Event, run, MadeOfBytes}

-- a tick after any frames and ticks since the start: the points that table k + 1 then had, the X that it saw, and the unit that the tick left
pub record Through (k : ℕ) (response x y : List ℕ) (saw : Signal) (after : List ℕ) : Type 0 where
  pub events : List Event
  pub bytes : MadeOfBytes events
  pub samples : List ℤ
  pub left : after ≡ ticked samples (run events at_start)
  pub responses : eleven after (of_table 0x3004 (k + 1)) ≡ response
  pub xs : eleven after (of_table 0x3005 (k + 1)) ≡ x
  pub ys : eleven after (of_table 0x3006 (k + 1)) ≡ y
  pub sees : seen (run events at_start) after (tables + k) (byte after (of_table 0x3000 (k + 1)) 0) (byte after (of_table 0x3001 (k + 1)) 0) ≡ saw

-- the number that it then gives, as its signal and in 30z7h
pub record Gives (k : ℕ) (after : List ℕ) (n : ℤ) : Type 0 where
  pub signal : held after tables (k + 1) ≡ Whole n
  pub shown : whole after (of_table 0x3007 (k + 1)) 0 ≡ n

-- two X of which the second is no smaller: whole numbers, or REAL32
pub data NoSmaller : Signal → Signal → Type 0 where
  wholes : {v w : ℤ} → v ≤ℤ w → NoSmaller (Whole v) (Whole w)
  reals : {r s : Float} → le r s ≡ true → NoSmaller (Real r) (Real s)

pub record Rises (k : ℕ) (after after' : List ℕ) : Type 0 where
  pub low : ℤ
  pub high : ℤ
  pub first : Gives k after low
  pub second : Gives k after' high
  pub order : low ≤ℤ high

-- "For any table whose used Y values don't fall from point to point, a larger x never gives a smaller output": whenever the two ticks come, in one unit or in two
abbrev pub TablesNeverDip : Type 0
TablesNeverDip =
    (k : ℕ) → k < 6 → (response x y : List ℕ) → NotFalling y (used response) → (saw saw' : Signal) (after after' : List ℕ)
    → Through k response x y saw after → Through k response x y saw' after' → NoSmaller saw saw' → Rises k after after'

-- an X that is a number
pub data Number : Signal → Type 0 where
  a_whole : {v : ℤ} → Number (Whole v)
  a_real : {r : Float} → Number (Real r)

pub record LiesBetween (k : ℕ) (a b : ℤ) (after : List ℕ) : Type 0 where
  pub output : ℤ
  pub gives : Gives k after output
  pub between : Between a b output

-- "every output lies between the two Y values of its interval", the x being the INTEGER16 that X becomes
abbrev pub TablesStayBetween : Type 0
TablesStayBetween =
    (k : ℕ) → k < 6 → (response x y : List ℕ) (saw : Signal) (after : List ℕ) → Through k response x y saw after → Number saw
    → LiesBetween k (value y (begins_at response x (signals.whole saw))) (value y (ends_at response x (signals.whole saw))) after
