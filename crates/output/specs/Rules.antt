-- The rules of an output in the order in which their signals are asked for: what is left to decide once the earlier rules did not apply.
-- Assumes nothing.
use Rattle.std.specs.Prelude.{ℕ, List, ℤ, pos}
use Rattle.numbers.specs.Choice.{first}
use Rattle.signals.specs.Signal.{is_error, is_absent}
use Rattle.signals.specs.Signal as signals
use Rattle.output.specs.Output.{fault_of, ramped, rests}
use Rattle.output.specs.declared.Motion.{Motion}
use Rattle.output.specs.Turning.{turned_on}
use Rattle.unit.specs.Entry.{whole, byte}
use Rattle.unit.specs.Sources.{sourced}
use Rattle.output.specs.Outputs.{settings, motion}

unfoldable pub fault_for : List ℕ → ℕ → ℤ
fault_for unit n = fault_of (settings unit n) (whole unit 0x7330 n)

-- "(5) control error: fault; (6) control not available: 0; (7) target"
unfoldable pub controlled : List ℕ → ℕ → Motion
controlled unit n =
    let control = sourced unit (byte unit 0x2340 n) (byte unit 0x2341 n) in
    first (is_error control) (rests (fault_for unit n))
    (first (is_absent control) (rests (pos 0))
    (ramped (settings unit n) (signals.whole control) (motion unit n)))

-- "(3) override on: override FV; (4) override error: fault"
unfoldable pub overridden : List ℕ → ℕ → Motion
overridden unit n =
    let over = sourced unit (byte unit 0x2360 n) (byte unit 0x2361 n) in
    first (turned_on (byte unit 0x2362 n) over) (rests (whole unit 0x2300 n))
    (first (is_error over) (rests (fault_for unit n))
    (controlled unit n))
