-- No line of more than 29 bytes asks for anything: "Any other line, empty or longer too, prints ?."
-- Assumes nothing.
use Prim.Native.Nat.{ℕ, suc, ◌+◌, ◌*◌, ◌<◌, ◌≤◌}
use mathlib.Core.Bool.{Bool, true, false, ◌&&◌}
use mathlib.Core.List.{List, [], ◌∷◌}
use mathlib.Core.Path.{◌≡◌, refl, ap}
use native.Mathlib.Omega.{arith}
use borrow.Author.Tests.{leb-true, eqb-true}
use lib.Dec.{leb, eqb}
use lib.ListN.{length, take, drop, length-drop}
use Rattle.numbers.specs.Choice.{first, every}
use Rattle.printer.specs.Reading.{ahead, fields, letter, is_hex, is_frame, is_digit, minus, unsigned, is_digits, is_integer16, value_of, is_decimal, unknown, asked_frame, asked_tick, asked_by, asked}
use Rattle.printer.proofs.Cutting.{cut, span, following}
use Rattle.printer.proofs.Every.{both}

-- the bytes of fields, each with one more for what ends it
unfoldable pub total : List (List ℕ) → ℕ
total [] = 0
total (f ∷ rest) = suc (length f + total rest)

total_fields : (l : List ℕ) → total (fields l) ≡ suc (length l)
unfolding total fields ahead first
total_fields [] = refl
total_fields (b ∷ rest) = either (eqb b 0x20) (total_fields rest) where
  either : (t : Bool) → total (fields rest) ≡ suc (length rest) → total (first t ([] ∷ fields rest) (ahead b (fields rest))) ≡ suc (suc (length rest))
  either true e = omega arith
  either false e = rw (cut rest) (omega (arith, rw (cut rest) at e))

unsigned_length : (f : List ℕ) → length f ≤ suc (length (unsigned f))
unfolding unsigned first
unsigned_length f = either (minus f) where
  either : (t : Bool) → length f ≤ suc (length (first t (drop 1 f) f))
  either true = omega (arith, length-drop 1 f)
  either false = omega arith

decimal_length : (f : List ℕ) → is_decimal f ≡ true → length f ≤ 6
unfolding is_decimal is_digits
decimal_length f e =
    let u = unsigned f in
    let k : is_digits u ≡ true = (both (is_digits u) (is_integer16 (value_of f)) e).0 in
    let m : (leb (length u) 5 && every is_digit u) ≡ true = (both (leb 1 (length u)) (leb (length u) 5 && every is_digit u) k).1 in
    omega (arith, unsigned_length f, leb-true (length u) 5 (both (leb (length u) 5) (every is_digit u) m).0)

decimals_total : (fs : List (List ℕ)) → every is_decimal fs ≡ true → total fs ≤ 7 * length fs
unfolding every total
decimals_total [] e = omega arith
decimals_total (f ∷ rest) e =
    let k : (is_decimal f ≡ true) × (every is_decimal rest ≡ true) = both (is_decimal f) (every is_decimal rest) e in
    omega (arith, decimal_length f k.0, decimals_total rest k.1)

frames_total : (fs : List (List ℕ)) → every is_frame fs ≡ true → total fs ≤ 17 * length fs
unfolding every total is_frame
frames_total [] e = omega arith
frames_total (f ∷ rest) e =
    let k : (is_frame f ≡ true) × (every is_frame rest ≡ true) = both (is_frame f) (every is_frame rest) e in
    omega (arith, eqb-true (length f) 16 (both (eqb (length f) 16) (every is_hex f) k.0).0, frames_total rest k.1)

letter_length : (x : ℕ) (f : List ℕ) → letter x f ≡ true → length f ≡ 1
unfolding letter
letter_length x [] e = cc
letter_length x (b ∷ []) e = refl
letter_length x (b ∷ d ∷ rest) e = cc

-- n fields of at most m bytes each, counted with what ends them
module _ (n m : ℕ) (test : List ℕ → Bool) (most : (fs : List (List ℕ)) → every test fs ≡ true → total fs ≤ m * length fs) where
  over : (rest : List (List ℕ)) → m * n < total rest → (eqb (length rest) n && every test rest) ≡ false
  over rest h = go (eqb (length rest) n && every test rest) refl where
    go : (t : Bool) → (eqb (length rest) n && every test rest) ≡ t → t ≡ false
    go false p = refl
    go true p =
        let k : (eqb (length rest) n ≡ true) × (every test rest ≡ true) = both (eqb (length rest) n) (every test rest) p in
        absurd (omega (arith, most rest k.1, ap (λ (x : ℕ). m * x) (eqb-true (length rest) n k.0)))

by_letter : (f : List ℕ) (rest : List (List ℕ)) → 30 < total (f ∷ rest) → asked_by (f ∷ rest) ≡ unknown
unfolding asked_by asked_frame asked_tick total first
by_letter f rest h = go (letter 0x53 f) (letter 0x54 f) refl refl where
  go : (s t : Bool) → letter 0x53 f ≡ s → letter 0x54 f ≡ t → asked_by (f ∷ rest) ≡ unknown
  go true t p q = rw (p, over 1 17 is_frame frames_total rest (omega (arith, letter_length 0x53 f p)))
  go false true p q = rw (p, q, over 4 7 is_decimal decimals_total rest (omega (arith, letter_length 0x54 f q)))
  go false false p q = rw (p, q)

pub too_long : (line : List ℕ) → 29 < length line → asked line ≡ unknown
unfolding asked
too_long line h =
    let f = take (span line) line in
    let rest = following (drop (span line) line) in
    let t : total (f ∷ rest) ≡ suc (length line) = rw (cut line) at (total_fields line) in
    rw (cut line) (by_letter f rest (omega arith))
