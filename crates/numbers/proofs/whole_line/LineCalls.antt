-- What `limited` said of the points and of the number that it was handed as bits.
-- Assumes nothing.
use Prim.Native.Nat.{◌<◌, ◌^◌}
use mathlib.Core.Path.{◌≡◌, ◌∙◌}
use lib.IntN.{ℤ}
use lib.Signed.{mag}
use mir.Syntax.{w16}
use mir.Val.{to_z, of_z, SFits}
use mir.Facts.{to_z-of_z}
use Rattle.numbers.specs.Limit.{limit_whole}
use Rattle.numbers.specs.Line.{line_at}
use Rattle.numbers.proofs.ExactLaws.{back}

pub limited_is : {x1 y1 x2 y2 v r : ℤ} → mag r < 2 ^ 15 →
    r ≡ line_at (to_z w16 (of_z w16 x1)) (to_z w16 (of_z w16 y1)) (to_z w16 (of_z w16 x2)) (to_z w16 (of_z w16 y2))
    (limit_whole (to_z w16 (of_z w16 v)) (to_z w16 (of_z w16 x1)) (to_z w16 (of_z w16 x2))) →
    SFits w16 x1 → SFits w16 y1 → SFits w16 x2 → SFits w16 y2 → SFits w16 v →
    to_z w16 (of_z w16 r) ≡ line_at x1 y1 x2 y2 (limit_whole v x1 x2)
limited_is h e f1 g1 f2 g2 fv = back h (e ∙ rw (to_z-of_z f1, to_z-of_z g1, to_z-of_z f2, to_z-of_z g2, to_z-of_z fv))
