-- Whole numbers compared, as a test that a rule can choose by.
-- Assumes nothing.
use Rattle.std.specs.Prelude.{Bool, ℤ}
use Rattle.std.specs.Int.Signed.{lt_z}

-- a is below b
unfoldable pub below : ℤ → ℤ → Bool
below a b = lt_z a b
