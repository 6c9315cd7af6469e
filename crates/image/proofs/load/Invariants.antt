-- `image::load` meets its contract: after each record one word more is the image's (`LoadLaws`).
-- Assumes nothing.
use mathlib.Core.Path.{◌≡◌}
use lib.ListN.{length}
use Rattle.image.proofs.LoadLaws.{Half}
use Rattle.image.proofs.load.Given as goal

abbrev pub invariant-loop-slot : goal.invariant-loop-slot
invariant-loop-slot l = Half l.image l.initial.unit l.unit l.rest l.slot × (length l.unit ≡ length l.initial.unit)
