-- The command of an output by what is left to decide once the earlier rules did not apply.
-- Assumes nothing.
use Prim.Native.Nat.{ℕ}
use mathlib.Core.List.{List}
use mathlib.Core.Path.{◌≡◌}
use lib.IntN.{pos}
use Rattle.numbers.specs.Choice.{first}
use Rattle.signals.specs.Signal.{is_error}
use Rattle.output.specs.Turning.{turned_off}
use Rattle.output.proofs.RuleLaws.{by_signals}
use Rattle.unit.specs.Entry.{byte}
use Rattle.unit.specs.Sources.{sourced}
use Rattle.output.specs.Outputs.{settings, motion, driven_of}
use Rattle.output.specs.Output.{rests}
use Rattle.output.specs.Rules.{fault_for, controlled, overridden}

module _ (unit : List ℕ) (n : ℕ) where
  -- "(1) enable off: 0; (2) enable error: fault"
  pub by_enable : driven_of unit n ≡
      first (turned_off (byte unit 0x2352 n) (sourced unit (byte unit 0x2350 n) (byte unit 0x2351 n))) (rests (pos 0))
      (first (is_error (sourced unit (byte unit 0x2350 n) (byte unit 0x2351 n))) (rests (fault_for unit n))
      (overridden unit n))
  unfolding driven_of overridden controlled fault_for settings motion
  by_enable =
      by_signals (settings unit n)
      (sourced unit (byte unit 0x2340 n) (byte unit 0x2341 n))
      (sourced unit (byte unit 0x2350 n) (byte unit 0x2351 n))
      (sourced unit (byte unit 0x2360 n) (byte unit 0x2361 n))
      (motion unit n)
