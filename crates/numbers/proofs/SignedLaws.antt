-- What a word's INTEGER16 is where the word was made of a number.
-- Assumes nothing.
use Prim.Native.Nat.{ℕ, ◌+◌, ◌-◌, ◌%◌, ◌<◌, ◌≤◌}
use mathlib.Core.Bool.{Bool, true, false}
use mathlib.Core.Path.{◌≡◌, refl}
use native.Mathlib.Omega.{arith}
use borrow.Author.Tests.{lt-ltb, le-ltb, ltb-true, ltb-false}
use lib.Dec.{ltb}
use lib.IntN.{pos, neg_ℤ, ◌-ℤ◌}
use Rattle.numbers.specs.Choice.{first}
use Rattle.numbers.specs.Signed.{twos, signed16}
use Rattle.numbers.proofs.Differences.{same, lowered, minus, whole}

pub small : (n : ℕ) → n < 0x8000 → signed16 n ≡ pos n
unfolding signed16 twos first
small n h = let itself : n % 0x10000 ≡ n = omega arith in rw (itself, lt-ltb n 0x8000 h)

-- a number's size taken from 10000h stands for what is as far below zero
pub below_zero : (n : ℕ) → n ≤ 0x8000 → signed16 (0x10000 - n) ≡ neg_ℤ (pos n)
unfolding signed16 twos first
below_zero n h = go (ltb 0 n) refl
  where
    go : (some : Bool) → ltb 0 n ≡ some → signed16 (0x10000 - n) ≡ neg_ℤ (pos n)
    go false e =
        let none : n ≡ 0 = let k = ltb-false 0 n e in omega arith in
        rw none
    go true e =
        let k = ltb-true 0 n e in
        let itself : (0x10000 - n) % 0x10000 ≡ 0x10000 - n = omega arith in
        let back : 0x10000 - (0x10000 - n) ≡ n = omega arith in
        rw (itself, le-ltb (0x10000 - n) 0x8000 (omega arith), back)

-- a number that is counted from -32768
pub from_lowest : (n : ℕ) → n < 0x10000 → signed16 (n + 0x8000) ≡ pos n -ℤ pos 32768
unfolding signed16 twos first
from_lowest n h = go (ltb n 0x8000) refl
  where
    go : (low : Bool) → ltb n 0x8000 ≡ low → signed16 (n + 0x8000) ≡ pos n -ℤ pos 32768
    go true e =
        let k = ltb-true n 0x8000 e in
        let itself : (n + 0x8000) % 0x10000 ≡ n + 0x8000 = omega arith in
        rw (itself, le-ltb (n + 0x8000) 0x8000 (omega arith))
        (same (minus (whole (0x10000 - (n + 0x8000)))) (lowered n 32768) (omega arith))
    go false e =
        let k = ltb-false n 0x8000 e in
        let rest : (n + 0x8000) % 0x10000 ≡ n - 0x8000 = omega arith in
        rw (rest, lt-ltb (n - 0x8000) 0x8000 (omega arith)) (same (whole (n - 0x8000)) (lowered n 32768) (omega arith))
