-- What is promised of every command: "So under rule 7 the command stays between the two configured limits, and rules 1 to 6 name their value."
-- Assumes nothing.
use Rattle.std.specs.Prelude.{ℕ, ◌≤◌, ◌≡◌, ℤ, pos, ◌≤ℤ◌, ◌<ℤ◌}
use Rattle.signals.specs.declared.signal.Signal.{Signal}
use Rattle.output.specs.declared.Settings.{Settings}
use Rattle.output.specs.Output.{rule_of, fault_of, driven}
use Rattle.output.specs.declared.Motion.{Motion}

-- a number between two others
pub record Within (low high z : ℤ) : Type 0 where
  pub from : low ≤ℤ z
  pub to : z ≤ℤ high

-- the value that each of rules 1 to 6 names
pub record Names (s : Settings) (last : ℤ) (n : ℕ) (given : ℤ) : Type 0 where
  pub off : n ≡ 1 → given ≡ pos 0
  pub enable_error : n ≡ 2 → given ≡ fault_of s last
  pub overridden : n ≡ 3 → given ≡ s.override_fv
  pub override_error : n ≡ 4 → given ≡ fault_of s last
  pub control_error : n ≡ 5 → given ≡ fault_of s last
  pub no_control : n ≡ 6 → given ≡ pos 0

-- one of the seven rules applies
unfoldable pub SomeRule : Type 0
SomeRule = (s : Settings) (control enable over : Signal) → (1 ≤ rule_of s control enable over) × (rule_of s control enable over ≤ 7)

unfoldable pub Rules1To6 : Type 0
Rules1To6 = (s : Settings) (control enable over : Signal) (m : Motion)
    → Names s m.command (rule_of s control enable over) (driven s control enable over m).command

-- FV1 lies below FV2 in every configuration that may stand
unfoldable pub Rule7 : Type 0
Rule7 = (s : Settings) (control enable over : Signal) (m : Motion) → s.fv1 <ℤ s.fv2 → rule_of s control enable over ≡ 7
    → Within s.fv1 s.fv2 (driven s control enable over m).command
