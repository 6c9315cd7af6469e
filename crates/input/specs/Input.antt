-- An analog input over one tick: the paragraph "Input" of "One tick".
-- Assumes nothing.
use Rattle.std.specs.Prelude.{ℕ, ◌+◌, min, Bool, true, false, not, leb, ℤ, pos, ◌+ℤ◌, ◌-ℤ◌}
use Rattle.numbers.specs.Choice.{first}
use Rattle.numbers.specs.Limit.{limit_whole}
use Rattle.numbers.specs.Line.{line_at}
use Rattle.numbers.specs.Order.{below}
use Rattle.input.specs.declared.Settings.{Settings}
use Rattle.input.specs.declared.Memory.{Memory}
use Rattle.input.specs.declared.Sensed.{Sensed}
use Rattle.signals.specs.declared.signal.Signal.{Signal}
use Rattle.signals.specs.declared.signal.Signal.TheVariants.{Whole, Error}

-- low <= v <= high
unfoldable pub within : ℤ → ℤ → ℤ → Bool
within low v high = first (below v low) false (first (below high v) false true)

-- "With detect on, a sample below start or above end is out." With detect off none is.
unfoldable pub out : Settings → ℤ → Bool
out s sample = first s.detect (not (within s.start sample s.end)) false

-- The run of out ticks: one more on an out tick, over on any other. It is counted up to 65536, the largest delay + 1,
-- so that no delay can tell (`InputLaws`: `run_kept`, `flag_kept`).
unfoldable pub run_after : Settings → ℕ → ℤ → ℕ
run_after s run sample = first (out s sample) (min (run + 1) 65536) 0

-- "clears on the first tick with start + hysteresis <= sample <= end - hysteresis, or with detect off": exact sums
unfoldable pub clears : Settings → ℤ → Bool
clears s sample =
    first s.detect (within (s.start +ℤ s.hysteresis) sample (s.end -ℤ s.hysteresis)) true

-- "flagged when the run of out ticks is at least delay + 1"; a flag stays until it clears
unfoldable pub flagged_after : Settings → Memory → ℤ → Bool
flagged_after s m sample =
    first (leb (s.delay + 1) (run_after s m.run sample)) true (first (clears s sample) false m.flagged)

-- what the input keeps for the next tick
unfoldable pub kept : Settings → Memory → ℤ → Memory
kept s m sample = record { run = run_after s m.run sample; flagged = flagged_after s m sample }

-- "the straight line through (FV1, PV1) and (FV2, PV2) with the sample first limited to FV1..FV2"
unfoldable pub process : Settings → ℤ → ℤ
process s sample = line_at s.fv1 s.pv1 s.fv2 s.pv2 (limit_whole sample s.fv1 s.fv2)

-- "Flagged: signal is error"
unfoldable pub signal_of : Bool → ℤ → Signal
signal_of flagged v = first flagged Error (Whole v)

-- "and 7130h reads 0"
unfoldable pub reads_of : Bool → ℤ → ℤ
reads_of flagged v = first flagged (pos 0) v

-- one tick: what is kept, the input's signal and what 7130h reads
unfoldable pub sensed : Settings → Memory → ℤ → Sensed
sensed s m sample =
    record {
      memory = kept s m sample;
      signal = signal_of (flagged_after s m sample) (process s sample);
      reads = reads_of (flagged_after s m sample) (process s sample);
    }
