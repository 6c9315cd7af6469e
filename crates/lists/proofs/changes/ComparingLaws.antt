-- A record by the place where it begins: its size, its number, and the four bytes before its end.
-- Assumes nothing.
use mathlib.Core.Path.{◌≡◌, sym, ap, ◌∙◌}
use mathlib.Core.Bool.{true, false}
use mathlib.Core.List.{List, [], ◌∷◌}
use Prim.Native.Nat.{ℕ, zero, suc, ◌+◌, ◌-◌, ◌*◌, ◌≤◌}
use native.Mathlib.Nat.{eq_of_mul-eq-mul_left}
use native.Mathlib.Omega.{arith}
use lib.Dec.{eqb}
use lib.IntN.{ℤ}
use lib.ListN.{length, get_or, take, drop}
use lib.Seq.{drop-drop}
use lib.Signed.{lt_z}
use mir.Syntax.{w16}
use mir.Val.{SFits, to_z, of_z}
use mir.Facts.{to_z-of_z}
use borrow.Author.Tests.{eq-eqb, ne_eqb}
use Rattle.octets.specs.Little.{little}
use Rattle.octets.proofs.little.Parts.{placed, part}
use Rattle.numbers.specs.Order.{below}
use Rattle.numbers.specs.Signed.{twos, signed16}
use Rattle.records.specs.Walk.{size_in, data_in}
use Rattle.lists.specs.Noting.{Stands, Both, word_from}

-- four bytes from a place on, by their places
four_at : (image : List ℕ) (i j k l : ℕ) → suc i ≡ j → suc j ≡ k → suc k ≡ l → i + 4 ≤ length image
    → little (take 4 (drop i image)) ≡ get_or image i 0 + 256 * (get_or image j 0 + 256 * (get_or image k 0 + 256 * get_or image l 0))
unfolding little placed
four_at image i j k l p q r h = ap little (part image 4 i h) ∙ rw (p, q, r) (omega arith)

pub four_there : (image : List ℕ) {end : ℕ} → 4 ≤ end → end ≤ length image
    → little (get_or image (end - 4) 0 ∷ get_or image (end - 3) 0 ∷ get_or image (end - 2) 0 ∷ get_or image (end - 1) 0 ∷ []) ≡ little (take 4 (drop (end - 4) image))
unfolding little
four_there image {end} h l =
    sym (four_at image (end - 4) (end - 3) (end - 2) (end - 1) (omega arith) (omega arith) (omega arith) (omega arith) ∙ omega arith)

-- two numbers, compared
pub compared : {a b x y : ℤ} → a ≡ x → SFits w16 a → b ≡ y → SFits w16 b → lt_z (to_z w16 (of_z w16 a)) (to_z w16 (of_z w16 b)) ≡ below x y
unfolding below
compared p f q g = rw (to_z-of_z f, to_z-of_z g, p, q)

-- so many times the word, less one, are the four bytes before a record's end
unfoldable pub shift : ℕ → ℕ
shift zero = 0
shift (suc zero) = 16777215
shift (suc (suc zero)) = 65535
shift (suc (suc (suc zero))) = 255
shift (suc (suc (suc (suc n)))) = 0

module _ (image : List ℕ) (place : ℕ) (s : Stands image place) where
  size_bytes : size_in (drop place image)
      ≡ get_or image (place + 3) 0 + 256 * (get_or image (place + 4) 0 + 256 * (get_or image (place + 5) 0 + 256 * get_or image (place + 6) 0))
  unfolding size_in
  size_bytes =
      let inside = s.inside in
      ap (λ (l : List ℕ). little (take 4 l)) (drop-drop 3 place image)
      ∙ four_at image (place + 3) (place + 4) (place + 5) (place + 6) (omega arith) (omega arith) (omega arith) (omega arith)

  -- a size of at most four has one byte that is not 0
  pub first_tells : get_or image (place + 3) 0 ≡ size_in (drop place image)
  first_tells = let small = s.small in let bytes = size_bytes in omega arith

  module _ (n : ℕ) (e : n ≡ size_in (drop place image)) where
    word_bytes : word_from image place ≡ little (placed image (place + 7) n)
    unfolding word_from data_in
    word_bytes =
        let inside = s.inside in
        rw (← e) (ap (λ (l : List ℕ). little (take n l)) (drop-drop 7 place image) ∙ ap little (part image n (place + 7) (omega arith)))

  word_of_one : 1 ≡ size_in (drop place image) → word_from image place ≡ get_or image (place + 7) 0
  unfolding little placed
  word_of_one e = word_bytes 1 e ∙ omega arith

  word_of_more : (n : ℕ) → suc (suc n) ≡ size_in (drop place image)
      → word_from image place ≡ get_or image (place + 7) 0 + 256 * (get_or image (place + 8) 0 + 256 * little (placed image (place + 9) n))
  unfolding little placed
  word_of_more n e =
      let next : suc (place + 7) ≡ place + 8 = omega arith in
      let past : suc (place + 8) ≡ place + 9 = omega arith in
      word_bytes (suc (suc n)) e ∙ rw (next, past)

  pub one_byte : 1 ≡ size_in (drop place image) → signed16 (get_or image (place + 7) 0) ≡ signed16 (word_from image place)
  one_byte e = ap signed16 (sym (word_of_one e))

  pub two_bytes : (n : ℕ) → suc (suc n) ≡ size_in (drop place image)
      → signed16 (little (get_or image (place + 7) 0 ∷ get_or image (place + 8) 0 ∷ [])) ≡ signed16 (word_from image place)
  unfolding little signed16
  two_bytes n e = rw (word_of_more n e) (ap twos (omega arith))

  pub four_is : (n : ℕ) → n ≡ size_in (drop place image) → {end : ℕ} → end ≡ place + 7 + n → little (take 4 (drop (end - 4) image)) ≡ suc (shift n) * word_from image place
  unfolding shift little placed
  four_is zero e q = let some = s.some in omega (arith, e)
  four_is (suc zero) e {end} q =
      let inside = s.inside in
      let bytes = size_bytes in
      let from : end - 4 ≡ place + 4 = omega arith in
      let four = four_at image (place + 4) (place + 5) (place + 6) (place + 7) (omega arith) (omega arith) (omega arith) (omega arith) in
      let word = word_of_one e in
      rw from (four ∙ omega arith)
  four_is (suc (suc zero)) e {end} q =
      let inside = s.inside in
      let bytes = size_bytes in
      let from : end - 4 ≡ place + 5 = omega arith in
      let four = four_at image (place + 5) (place + 6) (place + 7) (place + 8) (omega arith) (omega arith) (omega arith) (omega arith) in
      let word = word_of_more 0 e in
      rw from (four ∙ omega arith)
  four_is (suc (suc (suc zero))) e {end} q =
      let inside = s.inside in
      let bytes = size_bytes in
      let from : end - 4 ≡ place + 6 = omega arith in
      let four = four_at image (place + 6) (place + 7) (place + 8) (place + 9) (omega arith) (omega arith) (omega arith) (omega arith) in
      let word = word_of_more 1 e in
      rw from (four ∙ omega arith)
  four_is (suc (suc (suc (suc zero)))) e {end} q =
      let inside = s.inside in
      let from : end - 4 ≡ place + 7 = omega arith in
      let four = four_at image (place + 7) (place + 8) (place + 9) (suc (place + 9)) (omega arith) (omega arith) (omega arith) (omega arith) in
      let word = word_of_more 2 e in
      rw from (four ∙ omega arith)
  four_is (suc (suc (suc (suc (suc n))))) e q = let small = s.small in omega (arith, e)

module _ (current wanted : List ℕ) (place size : ℕ) (b : Both current wanted place size) {end : ℕ} (q : end ≡ place + 7 + size) where
  here : little (take 4 (drop (end - 4) current)) ≡ suc (shift size) * word_from current place
  here = four_is current place b.first size b.size_first q

  there : little (take 4 (drop (end - 4) wanted)) ≡ suc (shift size) * word_from wanted place
  there = four_is wanted place b.second size b.size_second q

  pub same_words : little (take 4 (drop (end - 4) current)) ≡ little (take 4 (drop (end - 4) wanted)) → eqb (word_from current place) (word_from wanted place) ≡ true
  same_words e = eq-eqb _ _ (eq_of_mul-eq-mul_left (suc (shift size)) (omega arith) _ _ (sym here ∙ e ∙ there))

  pub other_words : (little (take 4 (drop (end - 4) current)) ≡ little (take 4 (drop (end - 4) wanted)) → ⊥) → eqb (word_from current place) (word_from wanted place) ≡ false
  other_words n = ne_eqb _ _ (λ e. n (here ∙ ap (λ (w : ℕ). suc (shift size) * w) e ∙ sym there))
