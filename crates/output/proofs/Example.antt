-- "So 1500 over 1000 ms gives 1, 3, 4 and reaches 1500 at tick 1000; the bench example becomes 1": output at rest, target 1500.
-- Assumes nothing.
use Prim.Native.Nat.{ℕ}
use mathlib.Core.List.{[], ◌∷◌}
use mathlib.Core.Path.{◌≡◌, refl}
use lib.IntN.{ℤ, pos}
use Rattle.numbers.specs.Choice.{first}
use Rattle.numbers.specs.Limit.{limit_whole}
use Rattle.numbers.specs.Line.{nearest_size, nearest, between, line_at}
use Rattle.numbers.specs.Order.{below}
use Rattle.signals.specs.Signal.{whole}
use Rattle.signals.specs.declared.signal.Signal.TheVariants.{Whole, Absent}
use Rattle.output.specs.Lasting.{again}
use Rattle.output.specs.Output.{rule, rule_of, span, way, higher, lower, rise, fall, reached, equal, alike, unchanged, goes_on_counting, counted, begun, rests, advanced, moved, target, in_use, ramped, by_rule, driven}
use Rattle.output.specs.Turning.{is_on, is_off, turned_on, turned_off}
use Rattle.output.specs.declared.Settings.{Settings}

unfoldable pub bench : Settings
bench =
    record {
      enable_response = 0;
      override_response = 0;
      pv1 = pos 0;
      pv2 = pos 1000;
      fv1 = pos 0;
      fv2 = pos 1500;
      fault_mode = 1;
      fault_fv = pos 0;
      override_fv = pos 2000;
      ramp_up = 1000;
      ramp_down = 1000;
    }

unfoldable pub at_tick : ℕ → ℤ
at_tick n = (again n (driven bench (Whole (pos 1000)) Absent Absent) (rests (pos 0))).command

pub example : at_tick 1 ∷ at_tick 2 ∷ at_tick 3 ∷ at_tick 999 ∷ at_tick 1000 ∷ at_tick 1001 ∷ [] ≡ pos 1 ∷ pos 3 ∷ pos 4 ∷ pos 1498 ∷ pos 1500 ∷ pos 1500 ∷ []
unfolding at_tick again bench driven rule_of rule turned_on turned_off is_on is_off by_rule rests whole ramped target in_use moved advanced begun counted goes_on_counting unchanged alike equal reached rise fall higher lower span way line_at between nearest nearest_size limit_whole below first
example = refl
