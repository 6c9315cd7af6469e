-- Records written and read: what is written for words that fit is right and holds them; what is right is what would be written.
-- Assumes nothing.
use mathlib.Core.Path.{◌≡◌, refl, sym, ap, ◌∙◌}
use mathlib.Core.Bool.{true}
use mathlib.Core.List.{List, [], ◌∷◌, ◌++◌, append_assoc, append-nil}
use Prim.Native.Nat.{ℕ, suc, ◌+◌, ◌-◌, ◌%◌, ◌^◌, ◌<◌, ◌≤◌}
use native.Mathlib.Nat.{le_of_suc-le-suc, not-suc-le-zero, sub_self}
use native.Mathlib.Omega.{arith}
use lib.ListN.{length, get_or, take, drop, replicate, length-drop, length-append, take-append-drop}
use lib.Seq.{take-add, take_at, drop_at, drop-drop, length-take-le}
use Rattle.octets.specs.Little.{little, bytes, Bytes}
use Rattle.octets.proofs.little.ByteLaws.{bytes_length, read_back, given_back, bytes_from, bytes_to}
use Rattle.octets.proofs.little.Parts.{placed, part}
use Rattle.records.specs.Layout.{Listed, size, extent, record_of, records, entry}
use Rattle.records.specs.Walk.{index_in, sub_in, size_in, data_in, fits, values}
use Rattle.records.proofs.RightLaws.{Right, AllRight}
use Rattle.roles.proofs.widths.WidthLaws.{at_most_four}

-- a word that an entry can hold, and a name that its record can hold
pub record Fit (e : Listed) (word : ℕ) : Type 0 where
  pub index : e.index < 65536
  pub sub : e.sub < 256
  pub sized : word < 256 ^ size e
  pub fit : fits e word ≡ true

-- ---- one record, written and read

module _ (e : Listed) (w : ℕ) (rest : List ℕ) where
  pub past : drop (7 + size e) (record_of e w ++ rest) ≡ rest
  unfolding record_of bytes
  past = sym (drop-drop (size e) 7 (record_of e w ++ rest)) ∙ drop_at (bytes (size e) w) rest (size e) (bytes_length (size e) w)

  module _ (f : Fit e w) where
    pub data_back : data_in (size e) (record_of e w ++ rest) ≡ w
    unfolding data_in record_of bytes
    data_back = ap little (take_at (bytes (size e) w) rest (size e) (bytes_length (size e) w)) ∙ read_back (size e) w f.sized

    index_back : index_in (record_of e w ++ rest) ≡ e.index
    unfolding index_in record_of bytes little
    index_back = let i = f.index in omega arith

    sub_back : sub_in (record_of e w ++ rest) ≡ e.sub
    unfolding sub_in record_of bytes
    sub_back = let s = f.sub in omega arith

    size_back : size_in (record_of e w ++ rest) ≡ size e
    unfolding size_in record_of bytes little size
    size_back = let most = at_most_four e.range.kind in omega arith

    pub written_right : Right e (record_of e w ++ rest)
    unfolding record_of bytes
    written_right =
        let long = length-append (bytes (size e) w) rest in
        let held = bytes_length (size e) w in
        record {
          room = omega arith;
          index = index_back;
          sub = sub_back;
          sized = size_back;
          fit = ap (fits e) data_back ∙ f.fit;
        }

-- ---- one record, read and written

pub bytes_back : (n : ℕ) (l : List ℕ) → Bytes l → length l ≡ n → bytes n (little l) ≡ l
bytes_back n l b h =
    given_back n l b (omega arith) ∙ ap (λ (m : ℕ). l ++ replicate (n - m) 0) h
    ∙ ap (λ (m : ℕ). l ++ replicate m 0) (sub_self n) ∙ append-nil l

-- so many bytes from a place on
pub part_back : (n i : ℕ) (l : List ℕ) → Bytes l → i + n ≤ length l → bytes n (little (take n (drop i l))) ≡ take n (drop i l)
part_back n i l b h =
    let room = length-drop i l in
    bytes_back n (take n (drop i l)) (bytes_to n (drop i l) (bytes_from i l b)) (length-take-le n (drop i l) (omega arith))

module _ (e : Listed) (rest : List ℕ) (r : Right e rest) (b : Bytes rest) where
  one : bytes 1 e.sub ≡ take 1 (drop 2 rest)
  unfolding sub_in bytes placed
  one =
      let h = r.room in
      let small = b 2 in
      ap (λ (s : ℕ). s % 256 ∷ []) (sym r.sub)
      ∙ ap (λ (v : ℕ). v ∷ []) (let low : get_or rest 2 0 % 256 ≡ get_or rest 2 0 = omega arith in low)
      ∙ sym (part rest 1 2 (omega arith))

  pub record_back : record_of e (data_in (size e) rest) ≡ take (7 + size e) rest
  unfolding record_of index_in size_in data_in
  record_back =
      let h = r.room in
      let index = ap (bytes 2) (sym r.index) ∙ part_back 2 0 rest b (omega arith) in
      let sized = ap (bytes 4) (sym r.sized) ∙ part_back 4 3 rest b (omega arith) in
      let held = part_back (size e) 7 rest b h in
      rw (index, one, sized, held)
      (sym (
      take-add 7 (size e) rest
      ∙ ap (λ (l : List ℕ). l ++ take (size e) (drop 7 rest)) (take-add 3 4 rest ∙ ap (λ (l : List ℕ). l ++ take 4 (drop 3 rest)) (take-add 2 1 rest))
      ))

-- ---- records one after the other

unfoldable pub AllFit : List Listed → List ℕ → Type 0
AllFit [] ws = Unit
AllFit (e ∷ es) [] = Fit e 0 × AllFit es []
AllFit (e ∷ es) (w ∷ ws) = Fit e w × AllFit es ws

pub all_fit : (es : List Listed) (ws : List ℕ) → ((k : ℕ) → k < length es → Fit (entry es k) (get_or ws k 0)) → AllFit es ws
unfolding AllFit entry
all_fit [] ws h = tt
all_fit (e ∷ es) [] h = (h 0 (omega arith), all_fit es [] (λ k l. h (suc k) (omega arith)))
all_fit (e ∷ es) (w ∷ ws) h = (h 0 (omega arith), all_fit es ws (λ k l. h (suc k) (omega arith)))

pub records_right : (es : List Listed) (ws rest : List ℕ) → AllFit es ws → AllRight es (records es ws ++ rest)
unfolding records AllRight AllFit
records_right [] ws rest a = tt
records_right (e ∷ es) [] rest a =
    rw (append_assoc (record_of e 0) (records es []) rest)
    (written_right e 0 (records es [] ++ rest) a.0, rw (past e 0 (records es [] ++ rest)) (records_right es [] rest a.1))
records_right (e ∷ es) (w ∷ ws) rest a =
    rw (append_assoc (record_of e w) (records es ws) rest)
    (written_right e w (records es ws ++ rest) a.0, rw (past e w (records es ws ++ rest)) (records_right es ws rest a.1))

pub values_back : (es : List Listed) (ws rest : List ℕ) → AllFit es ws → length es ≤ length ws → values es (records es ws ++ rest) ≡ take (length es) ws
unfolding records values AllFit
values_back [] ws rest a h = refl
values_back (e ∷ es) [] rest a h = absurd (not-suc-le-zero h)
values_back (e ∷ es) (w ∷ ws) rest a h =
    rw (append_assoc (record_of e w) (records es ws) rest, data_back e w (records es ws ++ rest) a.0, past e w (records es ws ++ rest))
    (ap (λ (l : List ℕ). w ∷ l) (values_back es ws rest a.1 (le_of_suc-le-suc h)))

pub records_back : (es : List Listed) (rest : List ℕ) → AllRight es rest → Bytes rest → length rest ≡ extent es → records es (values es rest) ≡ rest
unfolding records values AllRight extent
records_back [] [] a b h = refl
records_back [] (x ∷ rest) a b h = absurd (omega arith)
records_back (e ∷ es) rest a b h =
    let room = length-drop (7 + size e) rest in
    let front = record_back e rest a.0 b in
    let more = records_back es (drop (7 + size e) rest) a.1 (bytes_from (7 + size e) rest b) (omega arith) in
    rw (front, more) (take-append-drop (7 + size e) rest)

-- words behind those of the entries do not matter
pub records_front : (es : List Listed) (ws more : List ℕ) → length es ≤ length ws → records es (ws ++ more) ≡ records es ws
unfolding records
records_front [] ws more h = refl
records_front (e ∷ es) [] more h = absurd (not-suc-le-zero h)
records_front (e ∷ es) (w ∷ ws) more h = ap (λ (l : List ℕ). record_of e w ++ l) (records_front es ws more (le_of_suc-le-suc h))
