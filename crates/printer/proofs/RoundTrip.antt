-- What is printed as decimals is read back: a tick's line made of the printed samples asks for a tick of these samples.
-- Assumes nothing.
use Prim.Native.Nat.{ℕ, zero, suc, ◌+◌, ◌/◌, ◌%◌, ◌^◌, ◌<◌}
use mathlib.Core.Bool.{Bool, true, false, not}
use mathlib.Core.List.{List, [], ◌∷◌, map, foldl-append}
use mathlib.Core.Path.{◌≡◌, refl, ap, ◌∙◌}
use native.Mathlib.Nat.{mod-lt, pow-suc, div-add-mod', div-lt_iff_lt-mul}
use native.Mathlib.Omega.{arith}
use borrow.Author.Tests.{ltb-true, le-leb, ne_eqb}
use lib.Dec.{ltb, eqb, lit<}
use lib.IntN.{ℤ, pos, negsuc}
use lib.ListN.{length}
use mir.Syntax.{w16}
use mir.Val.{SFits}
use Rattle.numbers.specs.Choice.{first, every}
use Rattle.printer.specs.Printing.{width, last_digits, digits, decimal, spaced}
use Rattle.printer.specs.Reading.{fields, letter, is_digit, minus, unsigned, tens, size_of_digits, value_of, is_digits, is_decimal, tick_of, asked_tick, asked_by, asked}
use Rattle.printer.proofs.Cutting.{whole, apart}
use Rattle.printer.proofs.Decimals.{digit_yes, minus_in, plain_in}
use Rattle.printer.proofs.Every.{both, every_append, every_weaker}
use Rattle.printer.proofs.answer_lines.Places.{length_digits, width_range}

-- ---- digits are digits, as many as the number needs, and say the number
last_are_digits : (w n : ℕ) → every is_digit (last_digits w n) ≡ true
unfolding last_digits every
last_are_digits zero n = refl
last_are_digits (suc w) n =
    let h : n % 10 < 10 = mod-lt n (lit< tt) in
    every_append is_digit (last_digits w (n / 10)) ((0x30 + n % 10) ∷ []) (last_are_digits w (n / 10)) (rw (digit_yes (0x30 + n % 10) (omega arith) (omega arith)))

last_say : (w n : ℕ) → n < 10 ^ w → size_of_digits (last_digits w n) ≡ n
unfolding last_digits size_of_digits tens
last_say zero n h = omega arith
last_say (suc w) n h =
    let k : n / 10 < 10 ^ w = (div-lt_iff_lt-mul (lit< tt)).1 (rw (pow-suc 10 w) at h) in
    rw (foldl-append tens 0 (last_digits w (n / 10)) ((0x30 + n % 10) ∷ []), last_say w (n / 10) k) (omega (arith, div-add-mod' n 10))

width_room : (n : ℕ) → n < 100000 → n < 10 ^ width n
unfolding width first
width_room n h = go (ltb n 10) (ltb n 100) (ltb n 1000) (ltb n 10000) refl refl refl refl where
  go : (a b c d : Bool) → ltb n 10 ≡ a → ltb n 100 ≡ b → ltb n 1000 ≡ c → ltb n 10000 ≡ d → n < 10 ^ width n
  go true b c d p q r s = rw p (ltb-true n 10 p)
  go false true c d p q r s = rw (p, q) (ltb-true n 100 q)
  go false false true d p q r s = rw (p, q, r) (ltb-true n 1000 r)
  go false false false true p q r s = rw (p, q, r, s) (ltb-true n 10000 s)
  go false false false false p q r s = rw (p, q, r, s) h

are_digits : (n : ℕ) → every is_digit (digits n) ≡ true
unfolding digits
are_digits n = last_are_digits (width n) n

digits_say : (n : ℕ) → n < 100000 → size_of_digits (digits n) ≡ n
unfolding digits
digits_say n h = last_say (width n) n (width_room n h)

digits_good : (n : ℕ) → is_digits (digits n) ≡ true
unfolding is_digits
digits_good n =
    rw (le-leb 1 (length (digits n)) (omega (arith, length_digits n, width_range n)), le-leb (length (digits n)) 5 (omega (arith, length_digits n, width_range n)))
    (are_digits n)

-- ---- a digit is no - and no space
other : (x : ℕ) → is_digit x ≡ false → (b : ℕ) → is_digit b ≡ true → eqb b x ≡ false
other x e b f = ne_eqb b x (λ q. let k : is_digit x ≡ true = rw q at f in let z : ◌≡◌ {A = ℕ} 0 1 = cc in omega arith)

no_minus : (l : List ℕ) → every is_digit l ≡ true → minus l ≡ false
unfolding every minus is_digit
no_minus [] e = refl
no_minus (b ∷ rest) e = other 0x2D refl b (both (is_digit b) (every is_digit rest) e).0

unfoldable pub no_space : ℕ → Bool
no_space b = not (eqb b 0x20)

no_space_lem : (b : ℕ) → no_space b ≡ true → eqb b 0x20 ≡ false
unfolding no_space
no_space_lem b e = go (eqb b 0x20) e where
  go : (t : Bool) → not t ≡ true → t ≡ false
  go true p = cc
  go false p = refl

digit_no_space : (b : ℕ) → is_digit b ≡ true → no_space b ≡ true
unfolding no_space is_digit
digit_no_space b e = rw (other 0x20 refl b e)

-- ---- a printed decimal is a decimal, says its number and has no space
pub record ReadBack (z : ℤ) : Type 0 where
  pub good : is_decimal (decimal z) ≡ true
  pub says : value_of (decimal z) ≡ z
  pub alone : every no_space (decimal z) ≡ true

pub read_back : (z : ℤ) → SFits w16 z → ReadBack z
unfolding decimal is_decimal value_of unsigned minus every no_space first
read_back (pos n) f =
    let h : n < 32768 = f.sfits in
    let m : minus (digits n) ≡ false = no_minus (digits n) (are_digits n) in
    let k : size_of_digits (digits n) ≡ n = digits_say n (omega arith) in
    record {
      good = rw (m, digits_good n, k) (plain_in n ∙ le-leb n 32767 (omega arith));
      says = rw (m, k);
      alone = every_weaker is_digit no_space digit_no_space (digits n) (are_digits n);
    }
read_back (negsuc n) f =
    let h : n < 32768 = f.sfits in
    let k : size_of_digits (digits (suc n)) ≡ suc n = digits_say (suc n) (omega arith) in
    record {
      good = rw (digits_good (suc n), k) (minus_in (suc n) ∙ le-leb (suc n) 32768 (omega arith));
      says = rw k;
      alone = every_weaker is_digit no_space digit_no_space (digits (suc n)) (are_digits (suc n));
    }

-- ---- fields joined by one space each are cut apart again
cut_apart : (f : List ℕ) (rest : List (List ℕ)) → every no_space f ≡ true → every (every no_space) rest ≡ true → fields (spaced (f ∷ rest)) ≡ f ∷ rest
unfolding spaced every
cut_apart f [] e r = whole no_space no_space_lem f e
cut_apart f (g ∷ rest) e r =
    let k : (every no_space g ≡ true) × (every (every no_space) rest ≡ true) = both (every no_space g) (every (every no_space) rest) r in
    apart no_space no_space_lem f (spaced (g ∷ rest)) e ∙ ap (λ (fs : List (List ℕ)). f ∷ fs) (cut_apart g rest k.0 k.1)

pub round_trip : (a b c d : ℤ) → SFits w16 a → SFits w16 b → SFits w16 c → SFits w16 d
    → asked (spaced ((0x54 ∷ []) ∷ map decimal (a ∷ b ∷ c ∷ d ∷ []))) ≡ tick_of (a ∷ b ∷ c ∷ d ∷ [])
unfolding asked asked_by asked_tick letter every no_space first
round_trip a b c d fa fb fc fd =
    let ra = read_back a fa in
    let rb = read_back b fb in
    let rc = read_back c fc in
    let rd = read_back d fd in
    rw (cut_apart (0x54 ∷ []) (map decimal (a ∷ b ∷ c ∷ d ∷ [])) refl (rw (ra.alone, rb.alone, rc.alone, rd.alone)), ra.good, rb.good, rc.good, rd.good, ra.says, rb.says, rc.says, rd.says)
