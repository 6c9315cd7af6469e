-- A signed number by its sign and its size, as the code tells them apart.
-- Assumes nothing.
use Prim.Native.Nat.{◌<◌}
use mathlib.Core.Bool.{true, false}
use mathlib.Core.List.{◌∷◌}
use mathlib.Core.Path.{◌≡◌, refl}
use native.Mathlib.Omega.{arith}
use borrow.Author.Tests.{ltb-true}
use lib.IntN.{ℤ, pos, negsuc, nat_abs}
use mir.Syntax.{w16}
use mir.Val.{SFits}
use Rattle.numbers.specs.Order.{below}
use Rattle.printer.specs.Printing.{digits, decimal}

pub size_small : (v : ℤ) → SFits w16 v → nat_abs v < 100000
size_small (pos n) f = let h : n < 32768 = f.sfits in omega arith
size_small (negsuc n) f = let h : n < 32768 = f.sfits in omega arith

pub plain_decimal : (v : ℤ) → below v (pos 0) ≡ false → decimal v ≡ digits (nat_abs v)
unfolding decimal below
plain_decimal (pos n) e = refl
plain_decimal (negsuc n) e = cc

pub minus_decimal : (v : ℤ) → below v (pos 0) ≡ true → decimal v ≡ 0x2D ∷ digits (nat_abs v)
unfolding decimal below
minus_decimal (pos n) e = absurd (let h : n < 0 = ltb-true n 0 e in omega arith)
minus_decimal (negsuc n) e = refl
