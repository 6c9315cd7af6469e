-- "each by number"
-- Assumes nothing.
use Rattle.std.specs.Prelude.{ℕ, zero, suc, List}

-- the turns of blocks 1 to n, one after the other, each on the unit as the one before left it
unfoldable pub each : ℕ → (ℕ → List ℕ → List ℕ) → List ℕ → List ℕ
each zero turn unit = unit
each (suc n) turn unit = turn (suc n) (each n turn unit)
