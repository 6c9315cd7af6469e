-- What may be copied: records that stand at places of an image. No public contract cites this.
-- Assumes nothing.
use Rattle.std.specs.Prelude.{List, ℕ, ◌<◌, length, get_or}
use Rattle.lists.specs.Noting.{Stands}

pub record Standing (image places : List ℕ) : Type 0 where
  pub each : (k : ℕ) → k < length places → Stands image (get_or places k 0)
