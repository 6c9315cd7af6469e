-- Runs of stores into a buffer, one after the other.
-- Assumes nothing.
use Prim.Native.Nat.{ℕ, suc, ◌+◌, ◌≤◌}
use mathlib.Core.List.{List, [], ◌∷◌, ◌++◌}
use mathlib.Core.Path.{◌≡◌, refl, sym, ◌∙◌}
use native.Mathlib.Omega.{arith}
use native.Mathlib.Nat.{zero-add}
use lib.ListN.{length, set, length-append}
use lib.Seq.{sets, sets-eq, set_comm}
use Rattle.octets.proofs.little.Parts.{sets_append}
use Rattle.printer.specs.Printing.{Printed}
use Rattle.printer.specs.Put.{Put}

-- a store past a run comes before it or after it
pub sets_past : (l : List ℕ) (i : ℕ) (vs : List ℕ) (k d : ℕ) → i + length vs ≤ k → sets (set l k d) i vs ≡ set (sets l i vs) k d
sets_past l i [] k d h = refl
sets_past l i (a ∷ vs) k d h =
    rw (set_comm l k i d a (λ e. omega arith)) (sets_past (set l i a) (suc i) vs k d (omega arith))

-- ---- bytes put after bytes, and an answer put at the buffer's start
pub join : {before : List ℕ} {start : ℕ} {bytes after : List ℕ} {next : ℕ} {more last : List ℕ} {end : ℕ} → Put before start bytes after next → Put after next more last end
    → Put before start (bytes ++ more) last end
join {before} {start} {bytes} {after} {next} {more} p q = record {
  stored = q.stored ∙ rw (p.stored, p.place) (sym (sets_append bytes more before start));
  place = q.place ∙ rw p.place (omega (arith, length-append bytes more));
}

pub printed : {before answer after : List ℕ} {count : ℕ} → Put before 0 answer after count → length answer ≤ length before → Printed answer before after count
printed {before} {answer} p h = record {
  counted = p.place ∙ zero-add (length answer);
  bytes = p.stored ∙ sets-eq answer before 0 (rw (zero-add (length answer)) h) ∙ rw (zero-add (length answer));
}
