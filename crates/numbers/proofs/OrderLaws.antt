-- The order of ℤ: from a test, moving up and down, and that what lies between two numbers that fit fits.
-- Assumes nothing.
use Prim.Native.Nat.{ℕ}
use mathlib.Core.Bool.{Bool, true}
use mathlib.Core.Path.{◌≡◌}
use native.Mathlib.Nat.{lt_of_le_of_lt}
use native.Mathlib.Omega.{arith}
use lib.Dec.{leb→le}
use lib.IntN.{ℤ, pos, negsuc, ◌+ℤ◌, ◌-ℤ◌}
use lib.Signed.{◌≤ℤ◌, lt_z}
use mir.Syntax.{Width}
use mir.Val.{SFits}
use Rattle.numbers.specs.Order.{below}
use Rattle.numbers.proofs.Differences.{parts, whole, plus, less, above, at_most, told_most}

-- a branch's test of two numbers, said of the numbers that they are
pub tested : {x y a b : ℤ} {t : Bool} → x ≡ a → y ≡ b → lt_z x y ≡ t → below a b ≡ t
unfolding below
tested p q e = rw (p, q) at e

pub below_le : (a b : ℤ) → below a b ≡ true → a ≤ℤ b
below_le a b e = let l = above (parts a) (parts b) e in at_most (parts a) (parts b) (omega arith)

pub ≤ℤ_trans : {a b c : ℤ} → a ≤ℤ b → b ≤ℤ c → a ≤ℤ c
≤ℤ_trans {a} {b} {c} h k =
    let l = told_most (parts a) (parts b) h in
    let m = told_most (parts b) (parts c) k in
    at_most (parts a) (parts c) (omega arith)

pub up : (a : ℤ) (n : ℕ) → a ≤ℤ (a +ℤ pos n)
up a n = at_most (parts a) (plus (parts a) (whole n)) (omega arith)

pub down : (a : ℤ) (n : ℕ) → (a -ℤ pos n) ≤ℤ a
down a n = at_most (less (parts a) (whole n)) (parts a) (omega arith)

pub between_fits : {w : Width} (a z b : ℤ) → SFits w a → SFits w b → a ≤ℤ z → z ≤ℤ b → SFits w z
between_fits a (pos n) (pos b) f g h k = record { sfits = lt_of_le_of_lt (leb→le n b k.le) g.sfits }
between_fits a (pos n) (negsuc b) f g h k = absurd k.le
between_fits (pos a) (negsuc n) b f g h k = absurd h.le
between_fits (negsuc a) (negsuc n) b f g h k = record { sfits = lt_of_le_of_lt (leb→le n a h.le) f.sfits }
