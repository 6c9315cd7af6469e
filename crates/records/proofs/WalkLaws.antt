-- Walking on: what is taken is a whole record, and the records that follow decide the rest.
-- Assumes nothing.
use mathlib.Core.Path.{◌≡◌, refl, sym, ap, ◌∙◌}
use mathlib.Core.Bool.{Bool, true, false, not}
use mathlib.Core.List.{List, [], ◌∷◌, ◌++◌, flat_map}
use Prim.Native.Nat.{ℕ, suc, ◌+◌, ◌-◌, ◌<◌, ◌≤◌}
use native.Mathlib.Nat.{zero-add, add-zero, add_assoc}
use native.Mathlib.Omega.{arith}
use lib.Dec.{eqb, ltb}
use lib.ListN.{length, get_or, take, drop, length-drop, drop_of_length-le}
use lib.Seq.{drop-cons, drop-drop, take_all}
use borrow.Author.Tests.{lt-ltb, le-ltb, ltb-false, eq-eqb, ne_eqb}
use Rattle.octets.specs.Little.{little}
use Rattle.numbers.specs.Choice.{first}
use Rattle.dictionary.specs.Names.{configured}
use Rattle.records.specs.Layout.{Listed, size, listed, extent}
use Rattle.records.specs.Rows.{row_from, row_of, entry_at}
use Rattle.records.specs.declared.rows.Row.{Row}
use Rattle.records.specs.Walk.{index_in, sub_in, size_in, data_in, fits, valued, sized, decoded, behind, and_then, walked, taken_in}
use Rattle.records.specs.declared.types.Refusal.{Refusal}
use Rattle.records.specs.declared.types.Refusal.TheVariants.{EndedEarly, WrongCount, NotNext, WrongSize, OutOfRange}
use Rattle.std.specs.Prelude.{Result, Ok, Err}

-- ---- taken or refused

pub not_both : {why : Refusal} {n : ℕ} → Err why ≡ Ok n → ⊥
not_both e = cc

-- ---- what is taken is a head and its data, and they are there

module _ (e : Listed) (rest : List ℕ) {n : ℕ} where
  data_taken : valued e rest ≡ Ok n → (n ≡ 7 + size e) × (n ≤ length rest)
  unfolding valued first
  data_taken t = go (ltb (length rest) (7 + size e)) refl (fits e (data_in (size e) rest)) t
    where
      go : (short : Bool) → ltb (length rest) (7 + size e) ≡ short → (fit : Bool) → first short (Err EndedEarly) (first (not fit) (Err OutOfRange) (Ok (7 + size e))) ≡ Ok n → (n ≡ 7 + size e) × (n ≤ length rest)
      go true q fit t = absurd (not_both t)
      go false q false t = absurd (not_both t)
      go false q true t = let l = ltb-false (length rest) (7 + size e) q in let m : n ≡ 7 + size e = cc in (m, omega arith)

  pub whole_taken : decoded e rest ≡ Ok n → (n ≡ 7 + size e) × (n ≤ length rest)
  unfolding decoded sized first
  whole_taken t = go (ltb (length rest) 7) (eqb (index_in rest) e.index) (eqb (sub_in rest) e.sub) (eqb (size_in rest) (size e)) t
    where
      go : (short index sub sized : Bool) → first short (Err EndedEarly) (first (not index) (Err NotNext) (first (not sub) (Err NotNext) (first (not sized) (Err WrongSize) (valued e rest)))) ≡ Ok n → (n ≡ 7 + size e) × (n ≤ length rest)
      go true index sub sized t = absurd (not_both t)
      go false false sub sized t = absurd (not_both t)
      go false true false sized t = absurd (not_both t)
      go false true true false t = absurd (not_both t)
      go false true true true t = data_taken t

-- ---- one after the other

pub behind_none : (w : Result ℕ Refusal) → behind 0 w ≡ w
unfolding behind
behind_none (Ok n) = ap Ok (zero-add n)
behind_none (Err why) = refl

pub behind_twice : (m n : ℕ) (w : Result ℕ Refusal) → behind m (behind n w) ≡ behind (m + n) w
unfolding behind
behind_twice m n (Ok k) = ap Ok (sym (add_assoc m n k))
behind_twice m n (Err why) = refl

-- the records of two lists of entries: those of the second stand behind what the first took
pub then_taken : (xs ys : List Listed) (rest : List ℕ) {n : ℕ} → walked xs rest ≡ Ok n → (walked (xs ++ ys) rest ≡ behind n (walked ys (drop n rest))) × (n ≤ length rest)
unfolding walked and_then behind
then_taken [] ys rest {n} t = let z : n ≡ 0 = cc in rw z (sym (behind_none (walked ys rest)), omega arith)
then_taken (e ∷ xs) ys rest {n} t = go (decoded e rest) refl (walked xs (drop (7 + size e) rest)) (λ k q. then_taken xs ys (drop (7 + size e) rest) q) t
  where
    go : (d : Result ℕ Refusal) → decoded e rest ≡ d → (w : Result ℕ Refusal)
        → ((k : ℕ) → w ≡ Ok k → (walked (xs ++ ys) (drop (7 + size e) rest) ≡ behind k (walked ys (drop k (drop (7 + size e) rest)))) × (k ≤ length (drop (7 + size e) rest)))
        → and_then d w ≡ Ok n
        → (and_then (decoded e rest) (walked (xs ++ ys) (drop (7 + size e) rest)) ≡ behind n (walked ys (drop n rest))) × (n ≤ length rest)
    go (Err why) p w q t = absurd (not_both t)
    go (Ok m) p (Err why) q t = absurd (not_both t)
    go (Ok m) p (Ok k) q t =
        let whole = whole_taken e rest p in
        let sum : n ≡ m + k = cc in
        let more = q k refl in
        let room = length-drop (7 + size e) rest in (
          rw (p, more.0, sum, whole.0, behind_twice (7 + size e) k (walked ys (drop k (drop (7 + size e) rest))), drop-drop k (7 + size e) rest),
          omega arith,
        )

pub then_refused : (xs ys : List Listed) (rest : List ℕ) {why : Refusal} → walked xs rest ≡ Err why → walked (xs ++ ys) rest ≡ Err why
unfolding walked and_then behind
then_refused [] ys rest t = absurd (not_both (sym t))
then_refused (e ∷ xs) ys rest {why} t = go (decoded e rest) (walked xs (drop (7 + size e) rest)) (λ other q. then_refused xs ys (drop (7 + size e) rest) q) t
  where
    go : (d w : Result ℕ Refusal) → ((other : Refusal) → w ≡ Err other → walked (xs ++ ys) (drop (7 + size e) rest) ≡ Err other) → and_then d w ≡ Err why → and_then d (walked (xs ++ ys) (drop (7 + size e) rest)) ≡ Err why
    go (Err other) w q t = t
    go (Ok m) (Ok k) q t = absurd (not_both (sym t))
    go (Ok m) (Err other) q t = rw (q other refl) t

-- ---- all records are taken whole

pub takes_all : (es : List Listed) (rest : List ℕ) {n : ℕ} → walked es rest ≡ Ok n → (n ≡ extent es) × (n ≤ length rest)
unfolding walked and_then behind extent
takes_all [] rest {n} t = let z : n ≡ 0 = cc in (z, omega arith)
takes_all (e ∷ es) rest {n} t = go (decoded e rest) refl (walked es (drop (7 + size e) rest)) (λ k q. takes_all es (drop (7 + size e) rest) q) t
  where
    go : (d : Result ℕ Refusal) → decoded e rest ≡ d → (w : Result ℕ Refusal) → ((k : ℕ) → w ≡ Ok k → (k ≡ extent es) × (k ≤ length (drop (7 + size e) rest)))
        → and_then d w ≡ Ok n → (n ≡ 7 + size e + extent es) × (n ≤ length rest)
    go (Err why) p w q t = absurd (not_both t)
    go (Ok m) p (Err why) q t = absurd (not_both t)
    go (Ok m) p (Ok k) q t =
        let whole = whole_taken e rest p in
        let sum : n ≡ m + k = cc in
        let more = q k refl in
        let room = length-drop (7 + size e) rest in
        (omega arith, omega arith)

-- ---- a row, sub by sub

module _ (row : Row) (sub k : ℕ) (rest : List ℕ) where
  pub sub_taken : {n : ℕ} → decoded (entry_at row sub) rest ≡ Ok n
      → walked (row_from row sub (suc k)) rest ≡ behind n (walked (row_from row (suc sub) k) (drop n rest))
  unfolding walked row_from and_then
  sub_taken t = rw (t, (whole_taken (entry_at row sub) rest t).0)

  pub sub_refused : {why : Refusal} → decoded (entry_at row sub) rest ≡ Err why → walked (row_from row sub (suc k)) rest ≡ Err why
  unfolding walked row_from and_then
  sub_refused t = rw t

-- ---- the rest passed on as a part that starts in the middle

abbrev pub onward : ℕ → List ℕ → List ℕ
onward n rest = take (length rest - n) (drop n rest)

pub passed_on : (body rest : List ℕ) {n : ℕ} {whole : Result ℕ Refusal} (next : List ℕ → Result ℕ Refusal) → length rest ≤ length body → n ≤ length rest
    → whole ≡ behind (length body - length rest) (behind n (next (drop n rest)))
    → (length (onward n rest) ≤ length body) × (whole ≡ behind (length body - length (onward n rest)) (next (onward n rest)))
passed_on body rest {n} {whole} next h k e =
    let long = length-drop n rest in
    let part = take_all (length rest - n) (drop n rest) (omega arith) in
    let gone : length body - length rest + n ≡ length body - length (drop n rest) = omega arith in
    rw part (omega arith, e ∙ behind_twice _ _ _ ∙ ap (λ (m : ℕ). behind m (next (drop n rest))) gone)

module _ (row : Row) (last sub : ℕ) (body rest : List ℕ)
    (inv : walked (row_of row) body ≡ behind (length body - length rest) (walked (row_from row sub (suc last - sub)) rest)) where
  again : sub ≤ last → row_from row sub (suc last - sub) ≡ row_from row sub (suc (suc last - suc sub))
  again h = ap (row_from row sub) (omega arith)

  pub row_refused : sub ≤ last → {why : Refusal} {w : Result ℕ Refusal} → w ≡ Err why → w ≡ decoded (entry_at row sub) rest → w ≡ walked (row_of row) body
  unfolding behind
  row_refused h {why} t d =
      t ∙ sym (inv ∙ ap (λ (l : List Listed). behind (length body - length rest) (walked l rest)) (again h)
      ∙ ap (behind (length body - length rest)) (sub_refused row sub (suc last - suc sub) rest (sym d ∙ t)))

  pub row_on : sub ≤ last → length rest ≤ length body → {n : ℕ} → decoded (entry_at row sub) rest ≡ Ok n
      → (length (onward n rest) ≤ length body)
      × (walked (row_of row) body ≡ behind (length body - length (onward n rest)) (walked (row_from row (sub + 1) (suc last - (sub + 1))) (onward n rest)))
  row_on h k {n} d =
      let next : suc sub ≡ sub + 1 = omega arith in
      passed_on body rest (walked (row_from row (sub + 1) (suc last - (sub + 1)))) k (whole_taken (entry_at row sub) rest d).1
      (rw (← next) (inv ∙ ap (λ (l : List Listed). behind (length body - length rest) (walked l rest)) (again h)
      ∙ ap (behind (length body - length rest)) (sub_taken row sub (suc last - suc sub) rest d)))

  pub row_done : last < sub → Ok (length body - length rest) ≡ walked (row_of row) body
  unfolding walked behind row_from
  row_done h =
      let none : suc last - sub ≡ 0 = omega arith in
      sym (inv ∙ ap (λ (m : ℕ). behind (length body - length rest) (walked (row_from row sub m) rest)) none ∙ ap Ok (add-zero (length body - length rest)))

pub row_start : (row : Row) (body : List ℕ)
    → walked (row_of row) body ≡ behind (length body - length body) (walked (row_from row row.first (suc row.last - row.first)) body)
unfolding row_of
row_start row body =
    let none : 0 ≡ length body - length body = omega arith in
    sym (behind_none _) ∙ ap (λ (m : ℕ). behind m (walked (row_from row row.first (suc row.last - row.first)) body)) none

-- ---- all rows

module _ (rows : List Row) (at : ℕ) (whole : Result ℕ Refusal) (body rest : List ℕ)
    (inv : whole ≡ behind (length body - length rest) (walked (flat_map row_of (drop at rows)) rest)) where
  next_row : (none : Row) → at < length rows → flat_map row_of (drop at rows) ≡ row_of (get_or rows at none) ++ flat_map row_of (drop (suc at) rows)
  unfolding flat_map
  next_row none h = ap (flat_map row_of) (drop-cons rows at none h)

  pub rows_refused : (none : Row) → at < length rows → {why : Refusal} {w : Result ℕ Refusal} → w ≡ Err why → w ≡ walked (row_of (get_or rows at none)) rest → w ≡ whole
  unfolding behind
  rows_refused none h t d =
      t ∙ sym (inv ∙ ap (λ (l : List Listed). behind (length body - length rest) (walked l rest)) (next_row none h)
      ∙ ap (behind (length body - length rest)) (then_refused (row_of (get_or rows at none)) (flat_map row_of (drop (suc at) rows)) rest (sym d ∙ t)))

  pub rows_on : (none : Row) → at < length rows → length rest ≤ length body → {n : ℕ} → walked (row_of (get_or rows at none)) rest ≡ Ok n
      → (length (onward n rest) ≤ length body) × (whole ≡ behind (length body - length (onward n rest)) (walked (flat_map row_of (drop (at + 1) rows)) (onward n rest)))
  rows_on none h k {n} d =
      let next : suc at ≡ at + 1 = omega arith in
      let taken = then_taken (row_of (get_or rows at none)) (flat_map row_of (drop (suc at) rows)) rest d in
      passed_on body rest (walked (flat_map row_of (drop (at + 1) rows))) k taken.1
      (rw (← next) (inv ∙ ap (λ (l : List Listed). behind (length body - length rest) (walked l rest)) (next_row none h)
      ∙ ap (behind (length body - length rest)) taken.0))

  pub rows_done : length rows ≤ at → Ok (length body - length rest) ≡ whole
  unfolding walked behind flat_map
  rows_done h =
      sym (inv ∙ ap (λ (l : List Row). behind (length body - length rest) (walked (flat_map row_of l) rest)) (drop_of_length-le rows h)
      ∙ ap Ok (add-zero (length body - length rest)))

pub rows_start : (es : List Listed) (rows : List Row) (body : List ℕ) → es ≡ flat_map row_of rows
    → walked es body ≡ behind (length body - length body) (walked (flat_map row_of rows) body)
rows_start es rows body e =
    let none : 0 ≡ length body - length body = omega arith in
    ap (λ (l : List Listed). walked l body) e ∙ sym (behind_none _) ∙ ap (λ (m : ℕ). behind m (walked (flat_map row_of rows) body)) none

-- ---- the whole image

module _ (image : List ℕ) where
  pub no_count : length image < 4 → Err EndedEarly ≡ taken_in image
  unfolding taken_in first
  no_count h = rw (lt-ltb (length image) 4 h)

  module _ (h : 4 ≤ length image) {n : ℕ} (e : n ≡ little (take 4 image)) where
    pub other_count : (n ≡ configured → ⊥) → Err WrongCount ≡ taken_in image
    unfolding taken_in first
    other_count q = rw (le-ltb (length image) 4 h, ← e, ne_eqb n configured q)

    module _ (q : n ≡ configured) {es : List Listed} (l : es ≡ listed) {w : Result ℕ Refusal} (r : w ≡ walked es (onward 4 image)) where
      counted : taken_in image ≡ behind 4 w
      unfolding taken_in first
      counted =
          let room = length-drop 4 image in
          let part = take_all (length image - 4) (drop 4 image) (omega arith) in
          rw (le-ltb (length image) 4 h, ← e, eq-eqb n configured q, r, l, part)

      pub records_refused : {why : Refusal} → w ≡ Err why → w ≡ taken_in image
      unfolding behind
      records_refused t = t ∙ sym (counted ∙ rw t)

      pub records_taken : {m : ℕ} → w ≡ Ok m → Ok (4 + m) ≡ taken_in image
      unfolding behind
      records_taken t = sym (counted ∙ rw t)

      pub records_fit : {m : ℕ} → w ≡ Ok m → 4 + m ≤ length image
      records_fit t =
          let fit = takes_all es (onward 4 image) (sym r ∙ t) in
          let room = length-drop 4 image in
          let part = take_all (length image - 4) (drop 4 image) (omega arith) in
          let same = ap length part in
          omega arith

-- a whole image is taken to the end of its records
pub image_taken : (image : List ℕ) {n : ℕ} → taken_in image ≡ Ok n → (n ≡ 4 + extent listed) × (n ≤ length image)
unfolding taken_in first behind
image_taken image {n} t = go (ltb (length image) 4) refl (eqb (little (take 4 image)) configured) (walked listed (drop 4 image)) (λ m q. takes_all listed (drop 4 image) q) t
  where
    go : (short : Bool) → ltb (length image) 4 ≡ short → (counted : Bool) (w : Result ℕ Refusal) → ((m : ℕ) → w ≡ Ok m → (m ≡ extent listed) × (m ≤ length (drop 4 image)))
        → first short (Err EndedEarly) (first (not counted) (Err WrongCount) (behind 4 w)) ≡ Ok n → (n ≡ 4 + extent listed) × (n ≤ length image)
    go true s counted w q t = absurd (not_both t)
    go false s false w q t = absurd (not_both t)
    go false s true (Err why) q t = absurd (not_both t)
    go false s true (Ok m) q t =
        let long = ltb-false (length image) 4 s in
        let all = q m refl in
        let sum : n ≡ 4 + m = cc in
        let room = length-drop 4 image in
        (omega arith, omega arith)
