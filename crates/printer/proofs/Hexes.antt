-- A frame's field: 16 hex digits, read two at a time.
-- Assumes nothing.
use Prim.Native.Nat.{ℕ, suc, ◌+◌, ◌*◌, ◌<◌, ◌≤◌}
use mathlib.Core.Bool.{Bool, true, false, ◌&&◌, and-false}
use mathlib.Core.List.{List, [], ◌∷◌, ◌++◌, append_assoc, append-nil}
use mathlib.Core.Path.{◌≡◌, refl, ap, sym, ◌∙◌}
use native.Mathlib.Omega.{arith}
use native.Mathlib.Numerals.{add-one}
use borrow.Author.Tests.{eq-eqb, ne_eqb, leb-true}
use Rattle.std.specs.Prelude.{Option, Some, None}
use lib.Dec.{eqb, leb}
use lib.ListN.{length, take, drop, get_or, set, take-append-drop, drop_of_length-le}
use lib.Seq.{drop-cons, take-suc-set, take_all}
use Rattle.numbers.specs.Choice.{first, every}
use Rattle.printer.specs.Reading.{fields, is_hex, hex_value, is_frame, bytes_of_digits, unknown, frame_of, asked_frame}
use Rattle.printer.specs.Steps.{nibble_of}
use Rattle.printer.specs.declared.reading.Request.{Request}
use Rattle.printer.proofs.Cutting.{cut, whole, span, following}
use Rattle.printer.proofs.Every.{both, chosen, passed, some_none}
use Rattle.std.proofs.lemmas.Option.{none-some}

-- ---- one digit
hex_small : (b : ℕ) → is_hex b ≡ true → hex_value b < 16
unfolding is_hex hex_value first
hex_small b e = go (leb b 0x39) refl where
  go : (t : Bool) → leb b 0x39 ≡ t → hex_value b < 16
  go true p = rw p (let h : b ≤ 0x39 = leb-true b 0x39 p in omega arith)
  go false p =
      let k : (leb 0x41 b && leb b 0x46) ≡ true = rw (p, and-false (leb 0x30 b)) at e in
      rw p (let h : b ≤ 0x46 = leb-true b 0x46 (both (leb 0x41 b) (leb b 0x46) k).1 in omega arith)

hex_no_space : (b : ℕ) → is_hex b ≡ true → eqb b 0x20 ≡ false
unfolding is_hex
hex_no_space b e = ne_eqb b 0x20 (λ q. let k : is_hex 0x20 ≡ true = rw q at e in let z : ◌≡◌ {A = ℕ} 0 1 = cc in omega arith)

-- what a nibble tells of its digit
nibble_is : (b v : ℕ) → nibble_of b ≡ Some v → (is_hex b ≡ true) × (hex_value b ≡ v)
unfolding nibble_of
nibble_is b v e = let k = chosen (is_hex b) (Some (hex_value b)) None (Some v) (none-some v) e in let same : hex_value b ≡ v = let q = k.1 in cc in (k.0, same)

nibble_none : (b : ℕ) → nibble_of b ≡ None → is_hex b ≡ false
unfolding nibble_of
nibble_none b e = passed (is_hex b) (Some (hex_value b)) None (some_none (hex_value b)) e

pub nibble_small : (b v : ℕ) → nibble_of b ≡ Some v → v < 16
nibble_small b v e = let k = nibble_is b v e in omega (arith, k.1, hex_small b k.0)

-- ---- a field of hex digits has no space in it
frame_of_lem : (d : List ℕ) → asked_frame (fields d) ≡ first (is_frame d) (frame_of (bytes_of_digits d)) unknown
unfolding asked_frame is_frame every first following
frame_of_lem d = go (is_frame d) refl where
  alone : (t : Bool) → is_frame d ≡ t → fields d ≡ d ∷ [] → asked_frame (fields d) ≡ first t (frame_of (bytes_of_digits d)) unknown
  alone true p q = rw (q, p)
  alone false p q = rw (q, p)

  other : is_frame d ≡ false → (r : List ℕ) → drop (span d) d ≡ r → asked_frame (fields d) ≡ unknown
  other p [] q =
      alone false p (cut d ∙ ap (λ (x : List ℕ). take (span d) d ∷ following x) q ∙ ap (λ (x : List ℕ). x ∷ []) (sym (append-nil (take (span d) d)) ∙ ap (λ (x : List ℕ). take (span d) d ++ x) (sym q) ∙ take-append-drop (span d) d))
  other p (b ∷ r) q =
      let n = length (following (drop (span r) r)) in
      rw (cut d, q, cut r, ne_eqb (suc (suc n)) 1 (λ e. omega arith))

  go : (t : Bool) → is_frame d ≡ t → asked_frame (fields d) ≡ first t (frame_of (bytes_of_digits d)) unknown
  go true p = alone true p (whole is_hex hex_no_space d (both (eqb (length d) 16) (every is_hex d) p).1)
  go false p = other p (drop (span d) d) refl

-- ---- the bytes read so far, and the digits that are left
unfoldable pub framed_from : List ℕ → List ℕ → Option Request
framed_from done rest = first (every is_hex rest) (frame_of (done ++ bytes_of_digits rest)) unknown

module _ (d : List ℕ) where
  pub frame_start : length d ≡ 16 → asked_frame (fields d) ≡ framed_from [] d
  unfolding is_frame framed_from
  frame_start h = frame_of_lem d ∙ rw (eq-eqb (length d) 16 h)

  pub frame_long : (length d ≡ 16 → ⊥) → asked_frame (fields d) ≡ unknown
  unfolding is_frame first
  frame_long h = frame_of_lem d ∙ rw (ne_eqb (length d) 16 h)

  pub frame_done : (bytes : List ℕ) (k : ℕ) → length d ≤ 2 * k → length bytes ≤ k → framed_from (take k bytes) (drop (2 * k) d) ≡ frame_of bytes
  unfolding framed_from every bytes_of_digits first
  frame_done bytes k h m = rw (drop_of_length-le d h, append-nil, take_all k bytes m)

  module _ (k : ℕ) (h : 2 * k + 1 < length d) where
    two : drop (2 * k) d ≡ get_or d (2 * k) 0 ∷ get_or d (2 * k + 1) 0 ∷ drop (2 * (k + 1)) d
    two =
        let next : suc (2 * k + 1) ≡ 2 * (k + 1) = omega arith in
        drop-cons d (2 * k) 0 (omega arith)
        ∙ ap (λ (r : List ℕ). get_or d (2 * k) 0 ∷ r) (ap (λ (n : ℕ). drop n d) (sym (add-one (2 * k))) ∙ drop-cons d (2 * k + 1) 0 h ∙ ap (λ (n : ℕ). get_or d (2 * k + 1) 0 ∷ drop n d) next)

    pub high_bad : (done : List ℕ) → nibble_of (get_or d (2 * k) 0) ≡ None → framed_from done (drop (2 * k) d) ≡ unknown
    unfolding framed_from every first
    high_bad done b = rw (two, nibble_none (get_or d (2 * k) 0) b)

    pub low_bad : (done : List ℕ) → nibble_of (get_or d (2 * k + 1) 0) ≡ None → framed_from done (drop (2 * k) d) ≡ unknown
    unfolding framed_from every first
    low_bad done b = rw (two, nibble_none (get_or d (2 * k + 1) 0) b, and-false (is_hex (get_or d (2 * k) 0)))

    pub frame_step : (bytes : List ℕ) (high low : ℕ) → k < length bytes → nibble_of (get_or d (2 * k) 0) ≡ Some high → nibble_of (get_or d (2 * k + 1) 0) ≡ Some low
        → framed_from (take k bytes) (drop (2 * k) d) ≡ framed_from (take (k + 1) (set bytes k (16 * high + low))) (drop (2 * (k + 1)) d)
    unfolding framed_from every bytes_of_digits
    frame_step bytes high low room eh el =
        let p = nibble_is (get_or d (2 * k) 0) high eh in
        let q = nibble_is (get_or d (2 * k + 1) 0) low el in
        rw (two, p.0, q.0, add-one k, take-suc-set bytes k (16 * high + low) room, append_assoc (take k bytes), p.1, q.1)
