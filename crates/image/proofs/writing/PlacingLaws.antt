-- Records stand one after the other: what is written from a front on, and then what is left, is the whole.
-- Assumes nothing.
use mathlib.Core.Path.{◌≡◌, refl, sym, ap, ◌∙◌}
use mathlib.Core.List.{List, [], ◌∷◌, ◌++◌, append-nil, append_assoc, flat_map}
use Prim.Native.Nat.{ℕ, suc, ◌+◌, ◌-◌, ◌/◌, ◌%◌, ◌<◌, ◌≤◌}
use native.Mathlib.Nat.{add-zero}
use native.Mathlib.Omega.{arith}
use lib.ListN.{length, get_or, set, drop, length-append, drop_of_length-le}
use lib.Seq.{sets, length-sets, drop-nil, drop-drop, drop-cons, get_or-drop}
use Rattle.octets.specs.Little.{bytes}
use Rattle.octets.proofs.little.ByteLaws.{bytes_length}
use Rattle.octets.proofs.little.Parts.{sets_append}
use Rattle.records.specs.Layout.{Listed, size, record_of, records, extent}
use Rattle.records.proofs.SizeLaws.{records_length}
use Rattle.records.specs.Rows.{row_of, row_from, entry_at}
use Rattle.records.specs.declared.rows.Row.{Row}
use Rattle.image.specs.declared.writing.types.Front.{Front}
use Rattle.image.specs.Placing.{Room, Placed}

-- ---- bytes behind bytes

pub put_behind : (a b l : List ℕ) (at : ℕ) {l' l'' : List ℕ} {next : ℕ} → l' ≡ sets l at a → l'' ≡ sets l' next b → next ≡ at + length a → l'' ≡ sets l at (a ++ b)
put_behind a b l at p q h = q ∙ rw (p, h) (sym (sets_append a b l at))

-- the head of a record, part by part
pub head_put : (l : List ℕ) (at index sub n : ℕ) {l' l'' l''' : List ℕ} → l' ≡ sets l at (bytes 2 index) → l'' ≡ sets l' (at + 2) (bytes 1 sub) → l''' ≡ sets l'' (at + 3) (bytes 4 n)
    → l''' ≡ sets l at (bytes 2 index ++ bytes 1 sub ++ bytes 4 n)
head_put l at index sub n p q r =
    put_behind (bytes 2 index ++ bytes 1 sub) (bytes 4 n) l at (put_behind (bytes 2 index) (bytes 1 sub) l at p q (simp bytes_length)) r (simp (length-append, bytes_length))

-- one byte more of a number
pub next_byte : (l : List ℕ) (number : ℕ) {place end : ℕ} → place < end
    → sets l place (bytes (end - place) number) ≡ sets (set l place (number % 256)) (place + 1) (bytes (end - (place + 1)) (number / 256))
unfolding bytes
next_byte l number {place} {end} h =
    let more : end - place ≡ suc (end - suc place) = omega arith in
    let next : suc place ≡ place + 1 = omega arith in
    ap (λ (n : ℕ). sets l place (bytes n number)) more
    ∙ ap (λ (n : ℕ). sets (set l place (number % 256)) n (bytes (end - n) (number / 256))) next

pub no_byte : (l : List ℕ) (number : ℕ) {place end : ℕ} → end ≤ place → sets l place (bytes (end - place) number) ≡ l
unfolding bytes
no_byte l number {place} {end} h =
    let none : end - place ≡ 0 = omega arith in
    ap (λ (n : ℕ). sets l place (bytes n number)) none

-- ---- records behind records

extent_append : (xs ys : List Listed) → extent (xs ++ ys) ≡ extent xs + extent ys
unfolding extent
extent_append [] ys = omega arith
extent_append (e ∷ xs) ys = let more = extent_append xs ys in omega arith

records_append : (xs ys : List Listed) (words : List ℕ) → records (xs ++ ys) words ≡ records xs words ++ records ys (drop (length xs) words)
unfolding records
records_append [] ys words = refl
records_append (e ∷ xs) ys [] =
    ap (λ (l : List ℕ). record_of e 0 ++ l) (records_append xs ys [] ∙ ap (λ (l : List ℕ). records xs [] ++ records ys l) (drop-nil (length xs)))
    ∙ sym (append_assoc (record_of e 0) (records xs []) (records ys []))
records_append (e ∷ xs) ys (w ∷ words) =
    ap (λ (l : List ℕ). record_of e w ++ l) (records_append xs ys words)
    ∙ sym (append_assoc (record_of e w) (records xs words) (records ys (drop (length xs) words)))

-- ---- placed one after the other

none_placed : {words image : List ℕ} {from : Front} → Placed [] words from image image from
unfolding records extent
none_placed = record { stored = refl; slot = omega arith; place = omega arith }

both_placed : (xs ys : List Listed) {words image image' image'' : List ℕ} {from front to : Front}
    → Placed xs words from image image' front → Placed ys words front image' image'' to → Placed (xs ++ ys) words from image image'' to
both_placed xs ys {words} {image} {image'} {image''} {from} p q =
    let long = records_length xs (drop from.slot words) in
    record {
      stored =
          q.stored
          ∙ rw (p.stored, p.place, p.slot, ← long, ← drop-drop (length xs) from.slot words, ← sets_append (records xs (drop from.slot words)) _ image from.place, ← records_append xs ys (drop from.slot words)) refl;
      slot = omega (arith, p.slot, q.slot, length-append xs ys);
      place = omega (arith, p.place, q.place, extent_append xs ys);
    }

named_record : (row : Row) (sub : ℕ) {n word word' : ℕ} → n ≡ size (entry_at row sub) → word ≡ word'
    → bytes 2 row.index ++ bytes 1 sub ++ bytes 4 n ++ bytes n word ≡ record_of (entry_at row sub) word'
unfolding record_of entry_at
named_record row sub s w = rw (s, w)

one_record : (e : Listed) (words : List ℕ) → record_of e (get_or words 0 0) ≡ records (e ∷ []) words
unfolding records
one_record e [] = sym (append-nil (record_of e 0))
one_record e (w ∷ words) = sym (append-nil (record_of e w))

-- the record of an entry: its head, and the bytes of its word behind it
pub record_placed : (row : Row) (sub : ℕ) (words : List ℕ) (from : Front) (image : List ℕ) {image' image'' : List ℕ} {word n : ℕ}
    → n ≡ size (entry_at row sub) → word ≡ get_or words from.slot 0
    → image' ≡ sets image from.place (bytes 2 row.index ++ bytes 1 sub ++ bytes 4 n) → image'' ≡ sets image' (from.place + 7) (bytes n word)
    → Placed (entry_at row sub ∷ []) words from image image'' (record { slot = from.slot + 1; place = from.place + 7 + n })
unfolding extent
record_placed row sub words from image {word = word} {n = n} s w p q =
    let all : bytes 2 row.index ++ bytes 1 sub ++ bytes 4 n ++ bytes n word ≡ record_of (entry_at row sub) (get_or (drop from.slot words) 0 0) =
    named_record row sub s (w ∙ sym (get_or-drop from.slot words 0 0 ∙ ap (λ (i : ℕ). get_or words i 0) (add-zero from.slot))) in
    record {
      stored =
          put_behind (bytes 2 row.index ++ bytes 1 sub ++ bytes 4 n) (bytes n word) image from.place p q (simp (length-append, bytes_length))
          ∙ ap (sets image from.place) (all ∙ one_record (entry_at row sub) (drop from.slot words));
      slot = refl;
      place = omega arith;
    }

-- ---- what is left of a whole

-- the image is as long as it was, what is left has room, and to place it is to place the whole
pub record Left (whole left : List Listed) (words : List ℕ) (from : Front) (image : List ℕ) (front : Front) (image' : List ℕ) : Type 0 where
  pub long : length image' ≡ length image
  pub room : Room left front image'
  pub rest : {image'' : List ℕ} {to : Front} → Placed left words front image' image'' to → Placed whole words from image image'' to

more_bytes : (es : List Listed) → length es ≤ extent es
unfolding extent
more_bytes [] = omega arith
more_bytes (e ∷ es) = let more = more_bytes es in omega arith

module _ {whole : List Listed} {words : List ℕ} {from : Front} {image : List ℕ} where
  pub all_left : Room whole from image → Left whole whole words from image from image
  all_left h = record { long = refl; room = h; rest = λ p. p }

  module _ {left : List Listed} {front : Front} {image' : List ℕ} (l : Left whole left words from image front image') where
    pub none_left : left ≡ [] → Placed whole words from image image' front
    none_left e = l.rest (rw e none_placed)

    module _ (xs ys : List Listed) (e : left ≡ xs ++ ys) where
      bytes_left : extent left ≡ extent xs + extent ys
      bytes_left = ap extent e ∙ extent_append xs ys

      pub room_next : Room xs front image'
      room_next = record { counted = l.room.counted; fits = omega (arith, l.room.fits, bytes_left) }

      pub left_next : {image'' : List ℕ} {to : Front} → Placed xs words front image' image'' to → Left whole ys words from image to image''
      left_next p =
          let long = ap length p.stored ∙ length-sets image' front.place (records xs (drop front.slot words)) in
          record {
            long = long ∙ l.long;
            room =
                record {
                  counted = omega (arith, l.room.counted, p.slot, p.place, more_bytes xs);
                  fits = omega (arith, l.room.fits, p.place, bytes_left);
                };
            rest = λ q. l.rest (rw e (both_placed xs ys p q));
          }

-- ---- the next sub of a row, the next of all rows, and none

pub next_sub : (row : Row) (sub last : ℕ) → sub ≤ last → row_from row sub (suc last - sub) ≡ (entry_at row sub ∷ []) ++ row_from row (sub + 1) (suc last - (sub + 1))
unfolding row_from
next_sub row sub last h =
    let next : suc sub ≡ sub + 1 = omega arith in
    let more : suc last - sub ≡ suc (suc last - suc sub) = omega arith in
    ap (row_from row sub) more ∙ ap (λ (n : ℕ). entry_at row sub ∷ row_from row n (suc last - n)) next

pub next_row : (rows : List Row) (none : Row) (at : ℕ) → at < length rows → flat_map row_of (drop at rows) ≡ row_of (get_or rows at none) ++ flat_map row_of (drop (at + 1) rows)
unfolding flat_map
next_row rows none at h =
    let next : suc at ≡ at + 1 = omega arith in
    ap (flat_map row_of) (drop-cons rows at none h) ∙ ap (λ (n : ℕ). row_of (get_or rows at none) ++ flat_map row_of (drop n rows)) next

pub no_sub : (row : Row) (sub last : ℕ) → last < sub → row_from row sub (suc last - sub) ≡ []
unfolding row_from
no_sub row sub last h = let none : suc last - sub ≡ 0 = omega arith in ap (row_from row sub) none

pub no_row : (rows : List Row) (at : ℕ) → length rows ≤ at → flat_map row_of (drop at rows) ≡ []
unfolding flat_map
no_row rows at h = ap (flat_map row_of) (drop_of_length-le rows h)
