-- However the input falls into pieces, the answers are those to the whole input.
-- Assumes nothing.
use Prim.Native.Nat.{ℕ}
use mathlib.Core.Bool.{Bool, true, false}
use mathlib.Core.List.{List, [], ◌∷◌, ◌++◌, foldl, foldl-append, flat_map, append-nil, append_assoc}
use mathlib.Core.Path.{◌≡◌, refl, sym, ap, ◌∙◌}
use native.Mathlib.Omega.{arith}
use borrow.Author.Tests.{ne_eqb, leb-true, leb-false}
use lib.Dec.{leb, eqb}
use lib.ListN.{length, take}
use lib.Seq.{take_all, take-append-le, take-take, length-take-le}
use Rattle.numbers.specs.Choice.{first}
use Rattle.printer.specs.Answering.{Said}
use Rattle.session.specs.Dialogue.{Cut, joined, cut, lines, told, next, answered, session, Kept, goes_on, prints, after, closed}
use Rattle.session.specs.Pieces.{fed, whole, InAnyPieces}
use Rattle.session.proofs.dialogue.Bytes.{told_short, answered_next, holds, over_long}

-- ---- an input that is cut at two places

cut_behind : (input : List ℕ) (before finished : List (List ℕ)) (line : List ℕ)
    → foldl joined (record { finished = before ++ finished; unfinished = line }) input
    ≡ record {
      finished = before ++ (foldl joined (record { finished = finished; unfinished = line }) input).finished;
      unfinished = (foldl joined (record { finished = finished; unfinished = line }) input).unfinished;
    }
unfolding joined first
cut_behind [] before finished line = refl
cut_behind (b ∷ rest) before finished line =
    by (eqb b 0x0A) (cut_behind rest before (finished ++ line ∷ []) []) (cut_behind rest before finished (line ++ b ∷ []))
  where
    -- the same cut behind other lines
    Behind : List (List ℕ) → Cut → Type 0
    Behind ls c = foldl joined (record { finished = ls; unfinished = c.unfinished }) rest ≡ record { finished = before ++ (foldl joined c rest).finished; unfinished = (foldl joined c rest).unfinished }

    by : (t : Bool) → Behind (before ++ (finished ++ line ∷ [])) (record { finished = finished ++ line ∷ []; unfinished = [] })
        → Behind (before ++ finished) (record { finished = finished; unfinished = line ++ b ∷ [] })
        → foldl joined (first t (record { finished = before ++ finished ++ line ∷ []; unfinished = [] }) (record { finished = before ++ finished; unfinished = line ++ b ∷ [] })) rest
        ≡ record {
          finished = before ++ (foldl joined (first t (record { finished = finished ++ line ∷ []; unfinished = [] }) (record { finished = finished; unfinished = line ++ b ∷ [] })) rest).finished;
          unfinished = (foldl joined (first t (record { finished = finished ++ line ∷ []; unfinished = [] }) (record { finished = finished; unfinished = line ++ b ∷ [] })) rest).unfinished;
        }
    by true e f = rw (append_assoc before finished (line ∷ [])) e
    by false e f = f

cut_twice : (line p q : List ℕ) → cut line (p ++ q) ≡ record { finished = (cut line p).finished ++ (cut (cut line p).unfinished q).finished; unfinished = (cut (cut line p).unfinished q).unfinished }
unfolding cut
cut_twice line p q =
    let c = foldl joined (record { finished = []; unfinished = line }) p in
    foldl-append joined (record { finished = []; unfinished = line }) p q
    ∙ ap (λ (l : List (List ℕ)). foldl joined (record { finished = l; unfinished = c.unfinished }) q) (sym (append-nil c.finished))
    ∙ cut_behind q c.finished [] c.unfinished

lines_behind : (before : List (List ℕ)) (c : Cut) → lines (record { finished = before ++ c.finished; unfinished = c.unfinished }) ≡ before ++ lines c
unfolding lines first
lines_behind before c = by (eqb (length c.unfinished) 0) where
  by : (t : Bool) → first t (before ++ c.finished) ((before ++ c.finished) ++ c.unfinished ∷ []) ≡ before ++ first t c.finished (c.finished ++ c.unfinished ∷ [])
  by true = refl
  by false = append_assoc before c.finished (c.unfinished ∷ [])

-- ---- lines answered behind others

answered_on : (ls : List (List ℕ)) (s : Said) → foldl next s ls ≡ record { left = (answered ls s.left).left; printed = s.printed ++ (answered ls s.left).printed }
unfolding answered next
answered_on [] s = rw (append-nil s.printed)
answered_on (l ∷ ls) s =
    let t = told l s.left in
    answered_on ls (record { left = t.left; printed = s.printed ++ t.printed })
    ∙ rw (answered_on ls (record { left = t.left; printed = [] ++ t.printed }), append_assoc s.printed t.printed (answered ls t.left).printed)

answered_behind : (before ls : List (List ℕ)) (unit : List ℕ)
    → answered (before ++ ls) unit ≡ record { left = (answered ls (answered before unit).left).left; printed = (answered before unit).printed ++ (answered ls (answered before unit).left).printed }
unfolding answered
answered_behind before ls unit = foldl-append next (record { left = unit; printed = [] }) before ls ∙ answered_on ls (answered before unit)

-- ---- cuts that are answered alike: of a line that is too long only 65 bytes count

record Alike (c d : Cut) : Type 0 where
  answers : (unit : List ℕ) → answered c.finished unit ≡ answered d.finished unit
  line : take 65 c.unfinished ≡ take 65 d.unfinished

told_alike : (l m unit : List ℕ) → take 65 l ≡ take 65 m → told l unit ≡ told m unit
told_alike l m unit e = sym (told_short l unit) ∙ ap (λ (x : List ℕ). told x unit) e ∙ told_short m unit

take_joined : (l : List ℕ) (b : ℕ) → take 65 (l ++ b ∷ []) ≡ take 65 (take 65 l ++ b ∷ [])
take_joined l b = by (leb (length l) 65) refl where
  by : (t : Bool) → leb (length l) 65 ≡ t → take 65 (l ++ b ∷ []) ≡ take 65 (take 65 l ++ b ∷ [])
  by true e = rw (take_all 65 l (leb-true (length l) 65 e))
  by false e =
      let h = leb-false (length l) 65 e in
      take-append-le 65 l (b ∷ []) (omega arith)
      ∙ sym (take-append-le 65 (take 65 l) (b ∷ []) (omega (arith, length-take-le 65 l (omega arith))) ∙ take-take 65 65 l (omega arith))

ends_alike : (c d : Cut) → Alike c d → (unit : List ℕ) → answered (c.finished ++ c.unfinished ∷ []) unit ≡ answered (d.finished ++ d.unfinished ∷ []) unit
unfolding next
ends_alike c d a unit =
    rw (answered_next c.finished c.unfinished unit, answered_next d.finished d.unfinished unit, a.answers unit, told_alike c.unfinished d.unfinished (answered d.finished unit).left a.line)

joined_alike : (c d : Cut) (b : ℕ) → Alike c d → Alike (joined c b) (joined d b)
unfolding joined first next
joined_alike c d b a = by (eqb b 0x0A) where
  by : (t : Bool)
      → Alike (first t (record { finished = c.finished ++ c.unfinished ∷ []; unfinished = [] }) (record { finished = c.finished; unfinished = c.unfinished ++ b ∷ [] }))
      (first t (record { finished = d.finished ++ d.unfinished ∷ []; unfinished = [] }) (record { finished = d.finished; unfinished = d.unfinished ++ b ∷ [] }))
  by true = record { answers = ends_alike c d a; line = refl }
  by false = record {
    answers = a.answers;
    line = take_joined c.unfinished b ∙ ap (λ (x : List ℕ). take 65 (x ++ b ∷ [])) a.line ∙ sym (take_joined d.unfinished b);
  }

cut_alike : (input : List ℕ) (c d : Cut) → Alike c d → Alike (foldl joined c input) (foldl joined d input)
cut_alike [] c d a = a
cut_alike (b ∷ rest) c d a = cut_alike rest (joined c b) (joined d b) (joined_alike c d b a)

lines_alike : (c d : Cut) (unit : List ℕ) → Alike c d → answered (lines c) unit ≡ answered (lines d) unit
unfolding lines first next
lines_alike c d unit a = rw empty (by (eqb (length d.unfinished) 0)) where
  empty : eqb (length c.unfinished) 0 ≡ eqb (length d.unfinished) 0
  empty = none c.unfinished ∙ ap (λ (l : List ℕ). eqb (length l) 0) a.line ∙ sym (none d.unfinished) where
    none : (l : List ℕ) → eqb (length l) 0 ≡ eqb (length (take 65 l)) 0
    none [] = refl
    none (b ∷ rest) = ne_eqb (length (b ∷ rest)) 0 (λ e. omega arith) ∙ sym (ne_eqb (length (take 65 (b ∷ rest))) 0 (λ e. omega arith))

  by : (t : Bool) → answered (first t c.finished (c.finished ++ c.unfinished ∷ [])) unit ≡ answered (first t d.finished (d.finished ++ d.unfinished ∷ [])) unit
  by true = a.answers unit
  by false = ends_alike c d a unit

-- ---- piece after piece

from : (pieces : List (List ℕ)) (k : Kept) (l : List ℕ) → length k.line ≡ 65 → take 65 (take k.held k.line) ≡ take 65 l
    → fed k pieces ≡ answered (lines (cut l (whole pieces))) k.unit
unfolding fed whole closed goes_on cut after prints flat_map
from [] k l h e =
    lines_alike (record { finished = []; unfinished = take k.held k.line }) (record { finished = []; unfinished = l }) k.unit (record { answers = λ unit. refl; line = e })
from (p ∷ rest) k l h e =
    let c = goes_on k p in
    let d = cut l p in
    let later = cut d.unfinished (whole rest) in
    let now = answered d.finished k.unit in
    let a : Alike c d = cut_alike p (record { finished = []; unfinished = take k.held k.line }) (record { finished = []; unfinished = l }) (record { answers = λ unit. refl; line = e }) in
    let same : answered c.finished k.unit ≡ now = a.answers k.unit in
    let held : take 65 (take (after k p).held (after k p).line) ≡ take 65 d.unfinished =
    ap (take 65) (holds k.line c.finished c.unfinished h) ∙ take-take 65 65 c.unfinished (omega arith) ∙ a.line in
    let rest-told : fed (after k p) rest ≡ answered (lines later) now.left =
    from rest (after k p) d.unfinished (over_long (c.finished ++ c.unfinished ∷ []) k.line ∙ h) held ∙ ap (λ (s : Said). answered (lines later) s.left) same in
    let all_told : answered (lines (cut l (p ++ whole rest))) k.unit ≡ record { left = (answered (lines later) now.left).left; printed = now.printed ++ (answered (lines later) now.left).printed } =
    ap (λ (x : Cut). answered (lines x) k.unit) (cut_twice l p (whole rest)) ∙ ap (λ (ls : List (List ℕ)). answered ls k.unit) (lines_behind d.finished later)
    ∙ answered_behind d.finished (lines later) k.unit in
    ap (λ (s : Said). record { left = (fed (after k p) rest).left; printed = s.printed ++ (fed (after k p) rest).printed }) same
    ∙ ap (λ (s : Said). record { left = s.left; printed = now.printed ++ s.printed }) rest-told ∙ sym all_told

pub in_any_pieces : InAnyPieces
unfolding InAnyPieces session
in_any_pieces pieces unit line h = from pieces (record { unit = unit; line = line; held = 0 }) [] h refl
