-- The INTEGER16 of a word is its low 16 bits, read with their sign.
-- Assumes nothing.
use Prim.Native.Nat.{ℕ, suc, ◌-◌, ◌%◌, ◌<◌}
use mathlib.Core.Bool.{Bool, true, false}
use mathlib.Core.Path.{◌≡◌, refl, ◌∙◌}
use native.Mathlib.Omega.{arith}
use lib.Dec.{ltb}
use mir.Syntax.{w16}
use mir.Val.{to_z, sel}
use lib.IntN.{pos, negsuc, neg_ℤ}
use Rattle.numbers.specs.Choice.{first}
use Rattle.numbers.specs.Signed.{twos, signed16}
use Rattle.numbers.proofs.ExactLaws.{back}
use Rattle.numbers.proofs.signed.signed.Goals as goal

read : (p : ℕ) → p < 0x10000 → to_z w16 p ≡ twos p
unfolding twos first
read p h = by (ltb p 0x8000)
  where
    upper : 0x10000 - p ≡ suc (0x10000 - suc p)
    upper = omega arith

    by : (low : Bool) → sel low (pos p) (negsuc (0x10000 - suc p)) ≡ first low (pos p) (neg_ℤ (pos (0x10000 - p)))
    by true = refl
    by false = rw upper

pub returns : goal.returns
unfolding signed16
returns c = back c.cast_signed.type_inv c.cast_signed.ensures ∙ read (c.args.word % 0x10000) (omega arith)
