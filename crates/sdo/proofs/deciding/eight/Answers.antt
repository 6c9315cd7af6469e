-- `deciding::eight` meets its contract: eight bytes one by one are all eight (`Parts`).
-- Assumes nothing.
use mathlib.Core.Path.{sym, ap, ◌∙◌}
use native.Mathlib.Omega.{arith}
use Prim.Native.Nat.{ℕ}
use lib.ListN.{take}
use Rattle.std.proofs.Math.Seq.{take-length}
use Rattle.octets.proofs.little.Parts.{placed, part}
use Rattle.sdo.proofs.deciding.eight.Goals as goal

pub returns : goal.returns
unfolding placed
returns c =
    let l = c.args.frame.now in
    sym (part l 8 0 (omega (arith, c.requires))) ∙ ap (λ (n : ℕ). take n l) (sym c.requires) ∙ take-length l
