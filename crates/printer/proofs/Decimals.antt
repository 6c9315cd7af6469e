-- Digits read from left to right, and a decimal told by its sign and size.
-- Assumes nothing.
use Prim.Native.Nat.{ℕ, zero, suc, ◌+◌, ◌-◌, ◌*◌, ◌^◌, ◌<◌, ◌≤◌}
use mathlib.Core.Bool.{Bool, true, false, not, ◌&&◌, and-true, and-false}
use mathlib.Core.List.{List, [], ◌∷◌, foldl}
use mathlib.Core.Path.{refl, sym, ◌∙◌, ◌≡◌}
use native.Mathlib.Omega.{arith}
use native.Mathlib.Nat.{mod-eq_of_lt, pow-suc, pow-le-pow_right}
use native.Mathlib.Numerals.{add-one}
use borrow.Author.Tests.{le-ltb, lt-leb, le-leb, eq-eqb, ne_eqb, ltb-true, ltb-false, leb-true}
use Rattle.std.specs.Prelude.{Option, Some, None}
use lib.Dec.{leb, ltb, lit<, leb-suc-suc}
use lib.IntN.{ℤ, pos, neg_ℤ}
use lib.ListN.{length, drop, get_or, drop_of_length-le}
use lib.Seq.{drop-cons}
use Rattle.numbers.specs.Choice.{first, every}
use Rattle.numbers.specs.Order.{below}
use Rattle.numbers.specs.Signed.{twos, signed16}
use Rattle.printer.specs.Reading.{is_digit, tens, size_of_digits, is_digits, is_integer16, is_decimal, minus, unsigned, value_of}
use Rattle.printer.specs.Steps.{size_read, number_read}
use Rattle.printer.proofs.Every.{both, chosen, passed, some_none}
use Rattle.std.proofs.lemmas.Option.{none-some}

-- ---- one digit
pub digit_yes : (b : ℕ) → 0x30 ≤ b → b ≤ 0x39 → is_digit b ≡ true
unfolding is_digit
digit_yes b h k = rw (le-leb 0x30 b h, le-leb b 0x39 k)

pub digit_small : (b : ℕ) → is_digit b ≡ true → b - 0x30 < 10
unfolding is_digit
digit_small b e = omega (arith, leb-true b 0x39 (both (leb 0x30 b) (leb b 0x39) e).1)

-- ---- the digits that are left, behind the number n that is read already
unfoldable pub sized_from : ℕ → List ℕ → ℕ → Option ℕ
sized_from n rest limit = first (every is_digit rest && leb (foldl tens n rest) limit) (Some (foldl tens n rest)) None

module _ (l : List ℕ) (limit : ℕ) where
  pub sized_start : 1 ≤ length l → length l ≤ 5 → size_read l limit ≡ sized_from 0 (drop 0 l) limit
  unfolding size_read sized_from size_of_digits is_digits
  sized_start h k = rw (le-leb 1 (length l) h, le-leb (length l) 5 k)

  pub sized_none : length l < 1 → size_read l limit ≡ None
  unfolding size_read is_digits first
  sized_none h = rw (lt-leb 1 (length l) h)

  pub sized_long : 5 < length l → size_read l limit ≡ None
  unfolding size_read is_digits first
  sized_long h = rw (lt-leb (length l) 5 h, and-false (leb 1 (length l)))

  module _ (n i : ℕ) (h : length l ≤ i) where
    pub sized_end : n ≤ limit → sized_from n (drop i l) limit ≡ Some n
    unfolding sized_from every first
    sized_end k = rw (drop_of_length-le l h, le-leb n limit k)

    pub sized_over : limit < n → sized_from n (drop i l) limit ≡ None
    unfolding sized_from every first
    sized_over k = rw (drop_of_length-le l h, lt-leb n limit k)

  module _ (n i : ℕ) (h : i < length l) where
    pub sized_step : is_digit (get_or l i 0) ≡ true → sized_from n (drop i l) limit ≡ sized_from (tens n (get_or l i 0)) (drop (i + 1) l) limit
    unfolding sized_from every
    sized_step e = rw (add-one, drop-cons l i 0 h, e)

    pub sized_stop : is_digit (get_or l i 0) ≡ false → sized_from n (drop i l) limit ≡ None
    unfolding sized_from every first
    sized_stop e = rw (drop-cons l i 0 h, e)

-- a number of i digits stays below 10 ^ i
pub room : (n i d : ℕ) → n < 10 ^ i → d < 10 → n * 10 + d < 10 ^ (i + 1)
room n i d h k = rw (add-one i, pow-suc 10 i) (omega arith)

pub small : (n i : ℕ) → n < 10 ^ i → i ≤ 5 → n < 100000
small n i h k = let p : 10 ^ i ≤ 10 ^ 5 = pow-le-pow_right (lit< tt) k in omega arith

-- ---- what read digits tell
module _ (d : List ℕ) (limit : ℕ) where
  told_bad : size_read d limit ≡ None → (is_digits d && leb (size_of_digits d) limit) ≡ false
  unfolding size_read
  told_bad e = passed (is_digits d && leb (size_of_digits d) limit) (Some (size_of_digits d)) None (some_none (size_of_digits d)) e

  told_is : (n : ℕ) → size_read d limit ≡ Some n → ((is_digits d && leb (size_of_digits d) limit) ≡ true) × (Some (size_of_digits d) ≡ Some n)
  unfolding size_read
  told_is n e = chosen (is_digits d && leb (size_of_digits d) limit) (Some (size_of_digits d)) None (Some n) (none-some n) e

pub sized_most : (l : List ℕ) (limit n : ℕ) → size_read l limit ≡ Some n → n ≤ limit
sized_most l limit n e =
    let k = told_is l limit n e in
    let m : size_of_digits l ≡ n = let q = k.1 in cc in
    omega (arith, m, leb-true (size_of_digits l) limit (both (is_digits l) (leb (size_of_digits l) limit) k.0).1)

-- ---- INTEGER16 by sign and size
turned : (a b : ℕ) → not (ltb a b) ≡ leb b a
turned a b = go (ltb a b) refl where
  go : (t : Bool) → ltb a b ≡ t → not t ≡ leb b a
  go true p = sym (lt-leb b a (ltb-true a b p))
  go false p = sym (le-leb b a (ltb-false a b p))

pub plain_in : (n : ℕ) → is_integer16 (pos n) ≡ leb n 32767
unfolding is_integer16 below
plain_in n = turned 32767 n

pub minus_in : (n : ℕ) → is_integer16 (neg_ℤ (pos n)) ≡ leb n 32768
unfolding is_integer16 below
minus_in zero = refl
minus_in (suc m) = and-true (not (ltb 32767 m)) ∙ turned 32767 m ∙ sym (leb-suc-suc m 32767)

-- a negative number's two's complement
pub complement : (n : ℕ) → n ≤ 32768 → signed16 (65536 - n) ≡ neg_ℤ (pos n)
unfolding signed16 twos first
complement zero h = refl
complement (suc m) h =
    let k : 65536 - suc m < 65536 = omega arith in
    let back : 65536 - (65536 - suc m) ≡ suc m = omega arith in
    rw (mod-eq_of_lt k, le-ltb (65536 - suc m) 0x8000 (omega arith), back)

-- ---- a field, told by its first byte and its digits
pub number_none : (l : List ℕ) → length l < 1 → number_read l ≡ None
unfolding number_read is_decimal is_digits unsigned minus first
number_none [] h = refl
number_none (b ∷ rest) h = absurd (omega arith)

minus_yes : (l : List ℕ) → get_or l 0 0 ≡ 0x2D → minus l ≡ true
unfolding minus
minus_yes [] e = absurd (omega arith)
minus_yes (b ∷ rest) e = eq-eqb b 0x2D e

minus_no : (l : List ℕ) → (get_or l 0 0 ≡ 0x2D → ⊥) → minus l ≡ false
unfolding minus
minus_no [] e = refl
minus_no (b ∷ rest) e = ne_eqb b 0x2D e

-- the digits d of a field l, and the number z that they make of a size, an INTEGER16 up to a limit
module _ (l d : List ℕ) (z : ℕ → ℤ) (limit : ℕ) (digits : unsigned l ≡ d) (made : value_of l ≡ z (size_of_digits d)) (inside : (n : ℕ) → is_integer16 (z n) ≡ leb n limit) where
  by_size : number_read l ≡ first (is_digits d && leb (size_of_digits d) limit) (Some (z (size_of_digits d))) None
  unfolding number_read is_decimal
  by_size = rw (digits, made, inside (size_of_digits d))

  number_bad : size_read d limit ≡ None → number_read l ≡ None
  unfolding first
  number_bad e = by_size ∙ rw (told_bad d limit e)

  number_is : (n : ℕ) → size_read d limit ≡ Some n → number_read l ≡ Some (z n)
  unfolding first
  number_is n e =
      let k = told_is d limit n e in
      let m : size_of_digits d ≡ n = let q = k.1 in cc in
      by_size ∙ rw (k.0, m)

module _ (l : List ℕ) (e : get_or l 0 0 ≡ 0x2D) where
  minus_digits : unsigned l ≡ drop 1 l
  unfolding unsigned first
  minus_digits = rw (minus_yes l e)

  minus_made : value_of l ≡ neg_ℤ (pos (size_of_digits (drop 1 l)))
  unfolding value_of first
  minus_made = rw (minus_digits, minus_yes l e)

  pub minus_bad : size_read (drop 1 l) 32768 ≡ None → number_read l ≡ None
  minus_bad = number_bad l (drop 1 l) (λ (n : ℕ). neg_ℤ (pos n)) 32768 minus_digits minus_made minus_in

  pub minus_is : (n : ℕ) → size_read (drop 1 l) 32768 ≡ Some n → number_read l ≡ Some (neg_ℤ (pos n))
  minus_is = number_is l (drop 1 l) (λ (n : ℕ). neg_ℤ (pos n)) 32768 minus_digits minus_made minus_in

module _ (l : List ℕ) (e : get_or l 0 0 ≡ 0x2D → ⊥) where
  plain_digits : unsigned l ≡ l
  unfolding unsigned first
  plain_digits = rw (minus_no l e)

  plain_made : value_of l ≡ pos (size_of_digits l)
  unfolding value_of first
  plain_made = rw (plain_digits, minus_no l e)

  pub plain_bad : size_read l 32767 ≡ None → number_read l ≡ None
  plain_bad = number_bad l l pos 32767 plain_digits plain_made plain_in

  pub plain_is : (n : ℕ) → size_read l 32767 ≡ Some n → number_read l ≡ Some (pos n)
  plain_is = number_is l l pos 32767 plain_digits plain_made plain_in
