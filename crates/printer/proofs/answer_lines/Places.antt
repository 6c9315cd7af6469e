-- Decimal digits by place.
-- Assumes nothing.
use Prim.Native.Nat.{ℕ, zero, suc, ◌+◌, ◌-◌, ◌/◌, ◌%◌, ◌<◌, ◌≤◌}
use mathlib.Core.Bool.{Bool, true, false}
use mathlib.Core.List.{List}
use mathlib.Core.Path.{◌≡◌, refl}
use native.Mathlib.Omega.{arith}
use lib.Dec.{ltb, lit≤}
use lib.IntN.{ℤ, pos, negsuc}
use lib.ListN.{length, length-append, set}
use lib.Seq.{sets}
use Rattle.numbers.specs.Choice.{first}
use Rattle.printer.specs.Printing.{width, last_digits, digits, decimal}
use Rattle.octets.proofs.little.Parts.{sets_append}
use Rattle.printer.proofs.Stores.{sets_past}

pub length_last : (w n : ℕ) → length (last_digits w n) ≡ w
unfolding last_digits
length_last zero n = refl
length_last (suc w) n = simp (length-append, length_last w (n / 10)) (omega arith)

pub length_digits : (n : ℕ) → length (digits n) ≡ width n
unfolding digits
length_digits n = length_last (width n) n

pub width_range : (n : ℕ) → (1 ≤ width n) × (width n ≤ 5)
unfolding width first
width_range n = go (ltb n 10) (ltb n 100) (ltb n 1000) (ltb n 10000) where
  go : (a b c d : Bool) → (1 ≤ first a 1 (first b 2 (first c 3 (first d 4 5)))) × (first a 1 (first b 2 (first c 3 (first d 4 5))) ≤ 5)
  go true b c d = (lit≤ tt, lit≤ tt)
  go false true c d = (lit≤ tt, lit≤ tt)
  go false false true d = (lit≤ tt, lit≤ tt)
  go false false false true = (lit≤ tt, lit≤ tt)
  go false false false false = (lit≤ tt, lit≤ tt)

-- the digit of the last place that is left, stored before those of the places in front of it
pub last_place : (l : List ℕ) (start left m : ℕ) → 0 < left
    → sets (set l (start + (left - 1)) (0x30 + m % 10)) start (last_digits (left - 1) (m / 10)) ≡ sets l start (last_digits left m)
unfolding last_digits
last_place l start zero m h = absurd (omega arith)
last_place l start (suc w) m h =
    let less : suc w - 1 ≡ w = omega arith in
    let long : length (last_digits w (m / 10)) ≡ w = length_last w (m / 10) in
    rw (less, sets_past l start (last_digits w (m / 10)) (start + w) (0x30 + m % 10) (omega arith), sets_append (last_digits w (m / 10)), long)

pub no_place : (l : List ℕ) (start left m : ℕ) → left ≤ 0 → sets l start (last_digits left m) ≡ l
unfolding last_digits
no_place l start zero m h = refl
no_place l start (suc w) m h = absurd (omega arith)

pub decimal_most : (z : ℤ) → length (decimal z) ≤ 6
unfolding decimal
decimal_most (pos n) = omega (arith, length_digits n, width_range n)
decimal_most (negsuc n) = omega (arith, length_digits (suc n), width_range (suc n))
