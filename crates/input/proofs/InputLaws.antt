-- Laws of the input: the flag of what is kept, and why a run may stop counting.
-- Assumes nothing.
use Prim.Native.Nat.{ℕ, ◌+◌, ◌<◌, min}
use mathlib.Core.Bool.{Bool, true, false}
use mathlib.Core.List.{List, [], ◌∷◌}
use mathlib.Core.Path.{◌≡◌, refl, ap}
use native.Mathlib.Omega.{arith}
use borrow.Author.Tests.{le-leb, lt-leb, leb-true, leb-false}
use lib.Dec.{leb}
use lib.IntN.{ℤ, pos}
use Rattle.numbers.specs.Choice.{first}
use Rattle.numbers.specs.Limit.{limit_whole}
use Rattle.numbers.specs.Line.{nearest_size, nearest, between, line_at}
use Rattle.numbers.specs.Order.{below}
use Rattle.input.specs.Input.{within, out, run_after, clears, kept, flagged_after, process}
use Rattle.input.specs.declared.Settings.{Settings}
use Rattle.input.specs.declared.Memory.{Memory}

-- the flag of what is kept
pub kept_flag : (s : Settings) (m : Memory) (sample : ℤ) {after : Memory} → kept s m sample ≡ after → flagged_after s m sample ≡ after.flagged
unfolding kept
kept_flag s m sample e = ap (λ (k : Memory). k.flagged) e

-- ---- a run that counts up to 65536 flags as one that never stops counting, tick after tick
-- the run without an end
unfoldable pub exact_run : Settings → ℕ → ℤ → ℕ
exact_run s n sample = first (out s sample) (n + 1) 0

module _ (s : Settings) (n : ℕ) (sample : ℤ) where
  -- a run that is the exact one, counted up to 65536, stays so
  pub run_kept : run_after s (min n 65536) sample ≡ min (exact_run s n sample) 65536
  unfolding run_after exact_run first
  run_kept = by (out s sample) where
    by : (t : Bool) → first t (min (min n 65536 + 1) 65536) 0 ≡ min (first t (n + 1) 0) 65536
    by true = omega arith
    by false = refl

  same_test : (run : ℕ) → s.delay < 65536 → leb (s.delay + 1) (min run 65536) ≡ leb (s.delay + 1) run
  same_test run h = by (leb (s.delay + 1) run) refl where
    by : (t : Bool) → leb (s.delay + 1) run ≡ t → leb (s.delay + 1) (min run 65536) ≡ t
    by true e = let k = leb-true (s.delay + 1) run e in le-leb (s.delay + 1) (min run 65536) (omega arith)
    by false e = let k = leb-false (s.delay + 1) run e in lt-leb (s.delay + 1) (min run 65536) (omega arith)

  -- and no delay of 16 bits tells them apart
  pub flag_kept : (flagged : Bool) → s.delay < 65536 →
      flagged_after s (record { run = min n 65536; flagged = flagged }) sample ≡
      first (leb (s.delay + 1) (exact_run s n sample)) true (first (clears s sample) false flagged)
  unfolding flagged_after
  flag_kept flagged h = rw (run_kept, same_test (exact_run s n sample) h)

-- ---- "Sample 2500: PV 500; 501: 0; 502: 1.", and one flag from its run to its end
-- a fresh unit's input, but with a delay of 1 ms
unfoldable pub bench : Settings
bench =
    record {
      fv1 = pos 500;
      pv1 = pos 0;
      fv2 = pos 4500;
      pv2 = pos 1000;
      start = pos 0;
      end = pos 5000;
      hysteresis = pos 100;
      detect = true;
      delay = 1;
    }

pub samples : process bench (pos 2500) ∷ process bench (pos 501) ∷ process bench (pos 502) ∷ [] ≡ pos 500 ∷ pos 0 ∷ pos 1 ∷ []
unfolding bench process line_at between nearest nearest_size limit_whole below first
samples = refl

-- the samples of some ticks, the first one first
unfoldable pub flags : Memory → List ℤ → List Bool
flags m [] = []
flags m (sample ∷ rest) = flagged_after bench m sample ∷ flags (kept bench m sample) rest

-- 5001 is out and flags on its second tick; 4901 is in the span and not in the band, so that the flag stays; 4900 clears it
pub flag_example : flags (record { run = 0; flagged = false }) (pos 5001 ∷ pos 5001 ∷ pos 4901 ∷ pos 4900 ∷ pos 5001 ∷ []) ≡
    false ∷ true ∷ true ∷ false ∷ false ∷ []
unfolding bench flags kept flagged_after run_after clears out within below first
flag_example = refl
