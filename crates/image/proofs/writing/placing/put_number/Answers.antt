-- `writing::placing::put_number` meets its contract: what is left of the bytes goes behind what is stored (`PlacingLaws`).
-- Assumes nothing.
use mathlib.Core.Path.{◌≡◌, refl, sym, ◌∙◌}
use Prim.Native.Nat.{◌+◌, ◌-◌}
use native.Mathlib.Omega.{arith}
use lib.ListN.{length-set}
use Rattle.image.proofs.writing.PlacingLaws.{next_byte, no_byte}
use Rattle.image.proofs.writing.placing.put_number.Goals as goal

pub loop-place-init : goal.loop-place-init
loop-place-init c =
    let all : c.args.at + c.args.size - c.args.at ≡ c.args.size = omega arith in (omega arith, (refl, rw all))

pub loop-place-preserved : goal.loop-place-preserved
loop-place-preserved c =
    let m = c.loop-place.invariant in (omega arith, (simp length-set m.1.0, sym (next_byte _ _ c.loop-place-test.true) ∙ m.1.1))

pub shape_of-image : goal.shape_of-image
shape_of-image c = c.loop-place.invariant.1.0

pub returns : goal.returns
returns c = sym (no_byte _ _ c.loop-place-test.false) ∙ c.loop-place.invariant.1.1
