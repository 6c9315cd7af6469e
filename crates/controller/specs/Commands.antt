-- The commands after a tick: "So under rule 7 the command stays between the two configured limits, and rules 1 to 6 name their value."
-- Assumes nothing.
use Rattle.std.specs.Prelude.{ℕ, ◌≤◌, List, ◌≡◌}
use Rattle.signals.specs.declared.signal.Signal.{Signal}
use Rattle.output.specs.Output.{rule_of, driven}
use Rattle.output.specs.Commanded.{Within, Names}
use Rattle.unit.specs.Entry.{whole, byte}
use Rattle.unit.specs.Sources.{sourced}
use Rattle.output.specs.Outputs.{settings, motion}

-- the three signals of output n: "2340h, 2341h control, 2350h, 2351h enable, 2360h, 2361h override"
unfoldable pub control : List ℕ → ℕ → Signal
control unit n = sourced unit (byte unit 0x2340 n) (byte unit 0x2341 n)

unfoldable pub enable : List ℕ → ℕ → Signal
enable unit n = sourced unit (byte unit 0x2350 n) (byte unit 0x2351 n)

unfoldable pub override : List ℕ → ℕ → Signal
override unit n = sourced unit (byte unit 0x2360 n) (byte unit 0x2361 n)

-- the rule that they give
unfoldable pub rule_for : List ℕ → ℕ → ℕ
rule_for unit n = rule_of (settings unit n) (control unit n) (enable unit n) (override unit n)

-- 7330h of output n after a tick, by the signals as they stand after it and the last command before it
pub record Commanded (before after : List ℕ) (n : ℕ) : Type 0 where
  -- with all that it remembers of its ramp
  pub moves : motion after n ≡ driven (settings after n) (control after n) (enable after n) (override after n) (motion before n)
  pub some : (1 ≤ rule_for after n) × (rule_for after n ≤ 7)
  pub named : Names (settings after n) (whole before 0x7330 n) (rule_for after n) (whole after 0x7330 n)
  pub within : rule_for after n ≡ 7 → Within (whole after 0x7321 n) (whole after 0x7323 n) (whole after 0x7330 n)
