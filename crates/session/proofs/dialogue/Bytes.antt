-- A piece byte by byte, and what the lent array holds of an unfinished line.
-- Assumes nothing.
use Prim.Native.Nat.{ℕ, suc, ◌+◌, ◌≤◌, min}
use mathlib.Core.Bool.{Bool, true, false}
use mathlib.Core.List.{List, [], ◌∷◌, ◌++◌, foldl, foldl-append, append-nil}
use mathlib.Core.Path.{◌≡◌, refl, sym, ap, ◌∙◌}
use native.Mathlib.Omega.{arith}
use native.Mathlib.Nat.{zero-add}
use borrow.Author.Tests.{lt-leb, lt-ltb, leb-true, leb-false}
use lib.Dec.{leb, ltb, eqb}
use lib.ListN.{length, take, drop, set, length-append, length-take, take-append-drop}
use lib.Seq.{sets, length-sets, length-take-le, sets-eq, set_out, take_all, take-append-le}
use Rattle.numbers.specs.Choice.{first}
use Rattle.octets.proofs.little.Parts.{sets_append}
use Rattle.session.specs.Dialogue.{Cut, joined, cut, told, next, answered, Kept, goes_on, prints, over, after}
use Rattle.session.specs.Byte.{ending, step, speaks}

-- ---- a line longer than 64 bytes is told by its first 65

pub told_short : (line unit : List ℕ) → told (take 65 line) unit ≡ told line unit
unfolding told first
told_short line unit = by (leb (length line) 65) refl where
  by : (t : Bool) → leb (length line) 65 ≡ t → told (take 65 line) unit ≡ told line unit
  by true e = rw (take_all 65 line (leb-true (length line) 65 e))
  by false e =
      let long = leb-false (length line) 65 e in
      let kept : leb (length (take 65 line)) 64 ≡ false = lt-leb (length (take 65 line)) 64 (omega (arith, length-take 65 line)) in
      rw (kept, lt-leb (length line) 64 (omega arith))

-- ---- lines written over one another

pub over_long : (lines : List (List ℕ)) (bytes : List ℕ) → length (foldl over bytes lines) ≡ length bytes
unfolding over
over_long [] bytes = refl
over_long (line ∷ rest) bytes = over_long rest (sets bytes 0 line) ∙ length-sets bytes 0 line

-- what would be stored past the end is not
sets_out : (vs l : List ℕ) (i : ℕ) → length l ≤ i → sets l i vs ≡ l
sets_out [] l i h = refl
sets_out (v ∷ vs) l i h = ap (λ (m : List ℕ). sets m (suc i) vs) (set_out l i v h) ∙ sets_out vs l (suc i) (omega arith)

-- the array begins with as much of a line as it holds
front : (line bytes : List ℕ) → length bytes ≡ 65 → take (min (length line) 65) (sets bytes 0 line) ≡ take 65 line
front line bytes h = by (leb (length line) 65) refl where
  fits : (l : List ℕ) → length l ≤ 65 → take (length l) (sets bytes 0 l) ≡ l
  fits l n =
      ap (take (length l)) (sets-eq l bytes 0 (omega (arith, zero-add (length l))))
      ∙ take-append-le (length l) l (drop (0 + length l) bytes) (omega arith) ∙ take_all (length l) l (omega arith)

  by : (t : Bool) → leb (length line) 65 ≡ t → take (min (length line) 65) (sets bytes 0 line) ≡ take 65 line
  by true e =
      let n = leb-true (length line) 65 e in
      let m : min (length line) 65 ≡ length line = omega arith in
      rw m (fits line n) ∙ sym (take_all 65 line n)
  by false e =
      let n = leb-false (length line) 65 e in
      let m : min (length line) 65 ≡ 65 = omega arith in
      let long : length (take 65 line) ≡ 65 = length-take-le 65 line (omega arith) in
      let cut_off : sets bytes 0 line ≡ sets bytes 0 (take 65 line) =
      ap (sets bytes 0) (sym (take-append-drop 65 line)) ∙ sets_append (take 65 line) (drop 65 line) bytes 0
      ∙ sets_out (drop 65 line) (sets bytes 0 (take 65 line)) (0 + length (take 65 line)) (omega (arith, length-sets bytes 0 (take 65 line), zero-add (length (take 65 line)))) in
      let whole = fits (take 65 line) (omega arith) in
      rw (m, cut_off) (ap (λ (n : ℕ). take n (sets bytes 0 (take 65 line))) (sym long) ∙ whole)

-- what is held after some lines and an unfinished one
pub holds : (bytes : List ℕ) (lines : List (List ℕ)) (line : List ℕ) → length bytes ≡ 65
    → take (min (length line) 65) (foldl over bytes (lines ++ line ∷ [])) ≡ take 65 line
unfolding over
holds bytes lines line h =
    rw (foldl-append over bytes lines (line ∷ [])) (front line (foldl over bytes lines) (over_long lines bytes ∙ h))

-- ---- one byte more

-- what is kept where the lines have been cut so
unfoldable kept_by : Kept → Cut → Kept
kept_by k c = record {
  unit = (answered c.finished k.unit).left;
  line = foldl over k.line (c.finished ++ c.unfinished ∷ []);
  held = min (length c.unfinished) 65;
}

pub answered_next : (lines : List (List ℕ)) (line unit : List ℕ) → answered (lines ++ line ∷ []) unit ≡ next (answered lines unit) line
unfolding answered
answered_next lines line unit = foldl-append next (record { left = unit; printed = [] }) lines (line ∷ [])

module _ (k : Kept) (h : length k.line ≡ 65) (c : Cut) where
  ended : ending (kept_by k c) ≡ told c.unfinished (answered c.finished k.unit).left
  unfolding ending kept_by
  ended =
      ap (λ (l : List ℕ). told l (answered c.finished k.unit).left) (holds k.line c.finished c.unfinished h)
      ∙ told_short c.unfinished (answered c.finished k.unit).left

  -- a byte that joins is stored behind those that are held, if there is room
  joins : (b : ℕ) → sets (foldl over k.line c.finished) 0 (c.unfinished ++ b ∷ [])
      ≡ set (sets (foldl over k.line c.finished) 0 c.unfinished) (length c.unfinished) b
  joins b =
      sets_append c.unfinished (b ∷ []) (foldl over k.line c.finished) 0
      ∙ ap (λ (n : ℕ). set (sets (foldl over k.line c.finished) 0 c.unfinished) n b) (zero-add (length c.unfinished))

  kept_next : (b : ℕ) → kept_by k (joined c b) ≡ step (kept_by k c) b
  unfolding joined step first kept_by over next
  kept_next b = by (eqb b 0x0A) where
    there : (t : Bool) → leb (length c.unfinished) 64 ≡ t
        → kept_by k (record { finished = c.finished; unfinished = c.unfinished ++ b ∷ [] })
        ≡ first (ltb (kept_by k c).held 65) (record { unit = (kept_by k c).unit; line = set (kept_by k c).line (kept_by k c).held b; held = (kept_by k c).held + 1 }) (kept_by k c)
    there true e =
        let n = leb-true (length c.unfinished) 64 e in
        let m : min (length c.unfinished) 65 ≡ length c.unfinished = omega arith in
        let more : min (length (c.unfinished ++ b ∷ [])) 65 ≡ length c.unfinished + 1 = omega (arith, length-append c.unfinished (b ∷ [])) in
        rw (m, lt-ltb (length c.unfinished) 65 (omega arith), more, foldl-append over k.line c.finished ((c.unfinished ++ b ∷ []) ∷ []), foldl-append over k.line c.finished (c.unfinished ∷ []), joins b)
    there false e =
        let n = leb-false (length c.unfinished) 64 e in
        let l = sets (foldl over k.line c.finished) 0 c.unfinished in
        let m : min (length c.unfinished) 65 ≡ 65 = omega arith in
        let more : min (length (c.unfinished ++ b ∷ [])) 65 ≡ 65 = omega (arith, length-append c.unfinished (b ∷ [])) in
        let long : length l ≡ 65 = length-sets (foldl over k.line c.finished) 0 c.unfinished ∙ over_long c.finished k.line ∙ h in
        rw (m, more, foldl-append over k.line c.finished ((c.unfinished ++ b ∷ []) ∷ []), foldl-append over k.line c.finished (c.unfinished ∷ []), joins b, set_out l (length c.unfinished) b (omega arith))

    by : (t : Bool)
        → kept_by k (first t (record { finished = c.finished ++ c.unfinished ∷ []; unfinished = [] }) (record { finished = c.finished; unfinished = c.unfinished ++ b ∷ [] }))
        ≡ first t (record { unit = (ending (kept_by k c)).left; line = (kept_by k c).line; held = 0 })
        (first (ltb (kept_by k c).held 65) (record { unit = (kept_by k c).unit; line = set (kept_by k c).line (kept_by k c).held b; held = (kept_by k c).held + 1 }) (kept_by k c))
    by true =
        rw (ended, answered_next c.finished c.unfinished k.unit, foldl-append over k.line (c.finished ++ c.unfinished ∷ []) ([] ∷ []))
    by false = there (leb (length c.unfinished) 64) refl

  printed_next : (b : ℕ) → (answered (joined c b).finished k.unit).printed ≡ (answered c.finished k.unit).printed ++ speaks (kept_by k c) b
  unfolding joined speaks first next
  printed_next b = by (eqb b 0x0A) where
    by : (t : Bool)
        → (answered (first {A = Cut} t (record { finished = c.finished ++ c.unfinished ∷ []; unfinished = [] }) (record { finished = c.finished; unfinished = c.unfinished ++ b ∷ [] })).finished k.unit).printed
        ≡ (answered c.finished k.unit).printed ++ first t (ending (kept_by k c)).printed []
    by true = rw (ended, answered_next c.finished c.unfinished k.unit)
    by false = rw (append-nil (answered c.finished k.unit).printed)

cut_next : (line p : List ℕ) (b : ℕ) → cut line (p ++ b ∷ []) ≡ joined (cut line p) b
unfolding cut
cut_next line p b = foldl-append joined (record { finished = []; unfinished = line }) p (b ∷ [])

module _ (k : Kept) (h : length k.line ≡ 65) (p : List ℕ) (b : ℕ) where
  pub after_next : after k (p ++ b ∷ []) ≡ step (after k p) b
  unfolding after goes_on kept_by
  after_next = ap (kept_by k) (cut_next (take k.held k.line) p b) ∙ kept_next k h (cut (take k.held k.line) p) b

  pub prints_next : prints k (p ++ b ∷ []) ≡ prints k p ++ speaks (after k p) b
  unfolding prints after goes_on kept_by
  prints_next =
      ap (λ (c : Cut). (answered c.finished k.unit).printed) (cut_next (take k.held k.line) p b) ∙ printed_next k h (cut (take k.held k.line) p) b
