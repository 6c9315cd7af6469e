-- A rule over the slots of the configuration, by lists that the check computes, handed on at each slot.
-- Assumes nothing.
use mathlib.Core.Path.{◌≡◌}
use Prim.Native.Nat.{ℕ, ◌<◌}
use native.Mathlib.Omega.{arith}
use Rattle.dictionary.specs.Names.{configured, writable, words}
use Rattle.dictionary.specs.Unit.{signals_at, runs_at, flags_at, unit_size}
use Rattle.dictionary.proofs.Tabulate.{tabulate, agree}

pub at_each : {A : Type 0} (f g : ℕ → A) → tabulate configured 0 f ≡ tabulate configured 0 g → (slot : ℕ) → slot < configured → f slot ≡ g slot
at_each f g e = agree configured f g (f 0) e

-- what can be written stands in the unit, and the configuration can be written
pub in_unit : (slot : ℕ) → slot < writable → slot < unit_size
unfolding configured writable words unit_size flags_at runs_at signals_at
in_unit slot h = omega arith

pub can_be_written : (slot : ℕ) → slot < configured → slot < writable
unfolding configured writable
can_be_written slot h = omega arith
