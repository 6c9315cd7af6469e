-- The four current outputs in a tick.
-- Assumes nothing.
use Rattle.std.specs.Prelude.{ℕ, ◌+◌, ◌-◌, ◌%◌, false, not, List, eqb, pos, get_or, set}
use Rattle.numbers.specs.Choice.{first}
use Rattle.numbers.specs.Signed.{signed16, pattern16}
use Rattle.dictionary.specs.Unit.{ramp_count_at, ramp_start_at, ramp_rising_at, ramp_fv1_at, ramp_fv2_at, ramp_used_at}
use Rattle.output.specs.Output.{driven}
use Rattle.output.specs.declared.Motion.{Motion}
use Rattle.output.specs.declared.Settings.{Settings}
use Rattle.unit.specs.Entry.{whole, byte, time, publish}
use Rattle.unit.specs.Sources.{sourced}

-- "7320h, 7322h, 7321h, 7323h: PV1, PV2; FV1, FV2", "6340h, 7341h, 2300h: fault mode; fault FV, override FV", "2330h, 2331h ramp up, down",
-- "2352h, 2362h: response"
unfoldable pub settings : List ℕ → ℕ → Settings
settings unit n =
    record {
      enable_response = byte unit 0x2352 n;
      override_response = byte unit 0x2362 n;
      pv1 = whole unit 0x7320 n;
      pv2 = whole unit 0x7322 n;
      fv1 = whole unit 0x7321 n;
      fv2 = whole unit 0x7323 n;
      fault_mode = byte unit 0x6340 n;
      fault_fv = whole unit 0x7341 n;
      override_fv = whole unit 0x2300 n;
      ramp_up = time unit 0x2330 n;
      ramp_down = time unit 0x2331 n;
    }

-- Output n's command is 7330h's own; what it remembers of its ramp stands in six words of its own. With a count of 0 the other five don't
-- matter, and count as 0.
unfoldable pub motion : List ℕ → ℕ → Motion
motion unit n =
    let count = get_or unit (ramp_count_at + (n - 1)) 0 in
    record {
      command = whole unit 0x7330 n;
      count = count;
      start = first (eqb count 0) (pos 0) (signed16 (get_or unit (ramp_start_at + (n - 1)) 0));
      rising = first (eqb count 0) false (not (eqb (get_or unit (ramp_rising_at + (n - 1)) 0 % 0x100) 0));
      fv1 = first (eqb count 0) (pos 0) (signed16 (get_or unit (ramp_fv1_at + (n - 1)) 0));
      fv2 = first (eqb count 0) (pos 0) (signed16 (get_or unit (ramp_fv2_at + (n - 1)) 0));
      used = first (eqb count 0) 0 (get_or unit (ramp_used_at + (n - 1)) 0 % 0x10000);
    }

-- what a count began with
unfoldable pub noted : List ℕ → ℕ → Motion → List ℕ
noted unit n m =
    let started = set unit (ramp_start_at + (n - 1)) (pattern16 m.start) in
    let directed = set started (ramp_rising_at + (n - 1)) (first m.rising 1 0) in
    let low = set directed (ramp_fv1_at + (n - 1)) (pattern16 m.fv1) in
    let high = set low (ramp_fv2_at + (n - 1)) (pattern16 m.fv2) in
    set high (ramp_used_at + (n - 1)) m.used

-- the command and the count, at each tick; what the count began with, at its first
unfoldable pub remember : List ℕ → ℕ → Motion → List ℕ
remember unit n m =
    let begun = first (eqb m.count 1) (noted unit n m) unit in
    set (publish begun 0x7330 n (pattern16 m.command)) (ramp_count_at + (n - 1)) m.count

-- what output n does: "2340h, 2341h control, 2350h, 2351h enable, 2360h, 2361h override"
unfoldable pub driven_of : List ℕ → ℕ → Motion
driven_of unit n =
    driven (settings unit n)
    (sourced unit (byte unit 0x2340 n) (byte unit 0x2341 n))
    (sourced unit (byte unit 0x2350 n) (byte unit 0x2351 n))
    (sourced unit (byte unit 0x2360 n) (byte unit 0x2361 n))
    (motion unit n)

unfoldable pub output_turn : ℕ → List ℕ → List ℕ
output_turn n unit = remember unit n (driven_of unit n)
