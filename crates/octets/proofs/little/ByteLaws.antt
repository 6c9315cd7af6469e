-- Numbers and their bytes, low byte first: so many bytes hold a number below their power of 256, and give it back.
-- Assumes nothing.
use mathlib.Core.Path.{◌≡◌, refl, sym, ap, ◌∙◌}
use mathlib.Core.List.{List, [], ◌∷◌, ◌++◌}
use Prim.Native.Nat.{ℕ, zero, suc, ◌+◌, ◌-◌, ◌*◌, ◌/◌, ◌%◌, ◌^◌, ◌<◌, ◌≤◌}
use native.Mathlib.Nat.{sub-zero, suc-sub-suc, pow-succ', le_of_suc-le-suc, not-suc-le-zero}
use native.Mathlib.Omega.{arith}
use lib.ListN.{length, take, drop, replicate}
use lib.Seq.{get_or-drop}
use mir.Syntax.{w32}
use Rattle.std.specs.Int.{to_le_bytes}
use Rattle.octets.specs.Little.{little, bytes, Bytes}

-- the bytes from one place on, and so many of them, are bytes
pub bytes_from : (n : ℕ) (l : List ℕ) → Bytes l → Bytes (drop n l)
bytes_from n l h i = rw (get_or-drop n l i 0) (h (n + i))

pub bytes_to : (n : ℕ) (l : List ℕ) → Bytes l → Bytes (take n l)
bytes_to zero l h i = omega arith
bytes_to (suc n) [] h i = omega arith
bytes_to (suc n) (b ∷ l) h zero = h 0
bytes_to (suc n) (b ∷ l) h (suc i) = bytes_to n l (λ j. h (suc j)) i

pub little_below : (n : ℕ) (l : List ℕ) → Bytes l → little (take n l) < 256 ^ n
unfolding little
little_below zero l h = omega arith
little_below (suc n) [] h = let r = little_below n [] h in rw (pow-succ' 256 n) (omega arith)
little_below (suc n) (b ∷ l) h =
    let r = little_below n l (λ i. h (suc i)) in
    let k = h 0 in
    rw (pow-succ' 256 n) (omega arith)

zeros : (n : ℕ) → bytes n 0 ≡ replicate n 0
unfolding bytes
zeros zero = refl
zeros (suc n) = ap (λ (l : List ℕ). 0 ∷ l) (zeros n)

pub given_back : (n : ℕ) (l : List ℕ) → Bytes l → length l ≤ n → bytes n (little l) ≡ l ++ replicate (n - length l) 0
unfolding bytes little
given_back n [] h k = zeros n ∙ ap (λ (m : ℕ). replicate m 0) (sym (sub-zero n))
given_back zero (b ∷ l) h k = absurd (not-suc-le-zero k)
given_back (suc n) (b ∷ l) h k =
    let small = h 0 in
    let low : (b + 256 * little l) % 256 ≡ b = omega arith in
    let rest : (b + 256 * little l) / 256 ≡ little l = omega arith in
    rw (low, rest, suc-sub-suc) (ap (λ (m : List ℕ). b ∷ m) (given_back n l (λ i. h (suc i)) (le_of_suc-le-suc k)))

pub bytes_length : (n v : ℕ) → length (bytes n v) ≡ n
unfolding bytes
bytes_length zero v = refl
bytes_length (suc n) v = ap suc (bytes_length n (v / 256))

-- a number that fits comes back from its bytes
pub read_back : (n v : ℕ) → v < 256 ^ n → little (bytes n v) ≡ v
unfolding bytes little
read_back zero v h = omega arith
read_back (suc n) v h =
    let quotient : v / 256 < 256 ^ n = omega (arith, pow-succ' 256 n) in
    rw (read_back n (v / 256) quotient) (omega arith)

pub are_bytes : (n v : ℕ) → Bytes (bytes n v)
unfolding bytes
are_bytes zero v i = omega arith
are_bytes (suc n) v zero = omega arith
are_bytes (suc n) v (suc i) = are_bytes n (v / 256) i

-- what the language's own `to_le_bytes` gives
pub le_bytes_four : (n : ℕ) → to_le_bytes w32 n ≡ bytes 4 n
unfolding bytes
le_bytes_four n =
    let two : n / 256 ^ 2 ≡ n / 256 / 256 = omega arith in
    let three : n / 256 ^ 3 ≡ n / 256 / 256 / 256 = omega arith in
    rw (two, three)
