-- Images written and read, as a whole.
-- Assumes nothing.
use mathlib.Core.Path.{◌≡◌, refl, sym, ap, subst, ◌∙◌}
use mathlib.Core.Bool.{Bool, true, ◌&&◌, and-eq-true_iff, true≢false}
use mathlib.Core.List.{List, [], ◌∷◌, ◌++◌, map, append-nil}
use Prim.Native.Nat.{ℕ, zero, suc, ◌^◌, ◌<◌, ◌≤◌}
use native.Mathlib.Nat.{le_of_suc-le-suc, not-suc-le-zero}
use native.Mathlib.Omega.{arith}
use lib.Dec.{ltb}
use lib.ListN.{length, get_or, take, drop, length-append, length-drop, take-append-drop}
use lib.Seq.{take_at, drop_at, length-take-le}
use borrow.Author.Tests.{ltb-true}
use Rattle.octets.specs.Little.{little, bytes, Bytes}
use Rattle.octets.proofs.little.ByteLaws.{bytes_length, read_back, bytes_from, bytes_to, little_below}
use Rattle.numbers.specs.Choice.{every}
use Rattle.dictionary.specs.Names.{Entry, entries, configured, index_at, sub_at}
use Rattle.dictionary.specs.Rows.{width}
use Rattle.dictionary.specs.declared.types.Range.{Range}
use Rattle.roles.specs.Values.{range_of}
use Rattle.entries.specs.Judge.{in_range}
use Rattle.entries.specs.Valid.{Valid}
use Rattle.std.specs.Prelude.{Result, Ok, Err, is_ok, ⊤}
use Rattle.entries.specs.declared.types.Fault.{Fault}
use Rattle.records.specs.Layout.{Listed, listed, nothing, size, records, image_of, entry, offset}
use Rattle.records.specs.Walk.{data_in, fits, values}
use Rattle.records.proofs.RightLaws.{AllRight, Whole}
use Rattle.records.proofs.SizeLaws.{listed_extent, image_length}
use Rattle.image.specs.Reading.{in_order, configuration_in}
use Rattle.image.proofs.reading.Acceptance.{Accepted}
use Rattle.image.proofs.reading.PlaceLaws.{counted, value_at, right_at}
use Rattle.image.proofs.ChainTrips.{order_linked, linked_order, front_order}
use Rattle.image.proofs.LoadLaws.{values_length}
use Rattle.image.proofs.RecordTrips.{Fit, all_fit, records_right, values_back, records_back, records_front, bytes_back, part_back}

-- ---- the entry of a slot

abbrev listing : Entry → Listed
listing e = record { index = e.index; sub = e.sub; range = e.value.range }

-- any part of it is that part of the table's own entry there
part_at : {A : Type 0} (part : Listed → A) (n : ℕ) (l : List Entry) (k : ℕ) → k < n
    → part (entry (map listing (take n l)) k) ≡ get_or (map (λ (e : Entry). part (listing e)) l) k (part nothing)
unfolding entry
part_at part zero l k h = absurd (not-suc-le-zero h)
part_at part (suc n) [] k h = refl
part_at part (suc n) (e ∷ l) zero h = refl
part_at part (suc n) (e ∷ l) (suc k) h = part_at part n l k (le_of_suc-le-suc h)

module _ (slot : ℕ) (h : slot < configured) where
  entry_range : (entry listed slot).range ≡ range_of slot
  unfolding listed range_of
  entry_range = part_at (λ e. e.range) configured entries slot h

  pub entry_index : (entry listed slot).index ≡ index_at slot
  unfolding listed index_at
  entry_index = part_at (λ e. e.index) configured entries slot h

  pub entry_sub : (entry listed slot).sub ≡ sub_at slot
  unfolding listed sub_at
  entry_sub = part_at (λ e. e.sub) configured entries slot h

many : configured ≡ 611
unfolding configured
many = refl

pub all_listed : length listed ≡ configured
all_listed = counted ∙ sym many

-- every name has room in a record, by computing
small_name : Listed → Bool
small_name e = ltb e.index 65536 && ltb e.sub 256

names_small : every small_name listed ≡ true
unfolding every small_name listed
names_small = refl

at_entry : (test : Listed → Bool) (es : List Listed) → every test es ≡ true → (k : ℕ) → k < length es → test (entry es k) ≡ true
unfolding every entry
at_entry test [] e k h = absurd (not-suc-le-zero h)
at_entry test (x ∷ es) e zero h = ((and-eq-true_iff (test x) (every test es)).0 e).0
at_entry test (x ∷ es) e (suc k) h = at_entry test es ((and-eq-true_iff (test x) (every test es)).0 e).1 k (le_of_suc-le-suc h)

-- ---- a configuration that may stand, written and read

module _ (unit : List ℕ) (valid : Valid unit) (long : configured ≤ length unit) where
  fit_at : (slot : ℕ) → slot < length listed → Fit (entry listed slot) (get_or unit slot 0)
  unfolding small_name size fits
  fit_at slot h =
      let inside : slot < configured = omega (arith, all_listed) in
      let range = entry_range slot inside in
      let name = at_entry small_name listed names_small slot h in
      let both = (and-eq-true_iff (ltb (entry listed slot).index 65536) (ltb (entry listed slot).sub 256)).0 name in
      record {
        index = ltb-true (entry listed slot).index 65536 both.0;
        sub = ltb-true (entry listed slot).sub 256 both.1;
        sized = subst (λ (r : Range). get_or unit slot 0 < 256 ^ width r.kind) (sym range) (valid.sized slot inside);
        fit = ap (λ (r : Range). is_ok (in_range r (get_or unit slot 0))) range ∙ ap is_ok (valid.ranged slot inside);
      }

  behind : drop 4 (image_of unit) ≡ records listed unit ++ []
  unfolding image_of
  behind = drop_at (bytes 4 configured) (records listed unit) 4 (bytes_length 4 configured) ∙ sym (append-nil (records listed unit))

  pub configuration_back : configuration_in (image_of unit) ≡ take configured unit
  unfolding configuration_in
  configuration_back =
      ap (values listed) behind
      ∙ values_back listed unit [] (all_fit listed unit fit_at) (omega (arith, all_listed))
      ∙ ap (λ (n : ℕ). take n unit) all_listed

  whole_image : Whole (image_of unit)
  unfolding image_of
  whole_image =
      let size = length-append (bytes 4 configured) (records listed unit) in
      let head = bytes_length 4 configured in
      record {
        headed = omega arith;
        counted = ap little (take_at (bytes 4 configured) (records listed unit) 4 head) ∙ read_back 4 configured (omega (arith, many));
        rights = subst (AllRight listed) (sym behind) (records_right listed unit [] (all_fit listed unit fit_at));
      }

  pub image_accepted : Accepted (image_of unit)
  unfolding image_of
  image_accepted =
      let size = length-append (bytes 4 configured) (records listed unit) in
      let head = bytes_length 4 configured in
      record {
        long = image_length unit;
        walk = whole_image;
        order = ap in_order (configuration_back ∙ ap (λ (n : ℕ). take n unit) many) ∙ front_order unit ∙ linked_order unit valid.linked;
      }

-- ---- an accepted image, read and written

module _ (image : List ℕ) (a : Accepted image) (b : Bytes image) where
  pub bytes_again : (more : List ℕ) → image_of (configuration_in image ++ more) ≡ image
  unfolding image_of configuration_in
  bytes_again more =
      let long = a.long in
      let room = length-drop 4 image in
      let front : bytes 4 configured ≡ take 4 image
      = ap (bytes 4) (sym a.walk.counted) ∙ bytes_back 4 (take 4 image) (bytes_to 4 image b) (length-take-le 4 image (omega arith)) in
      let rest = records_front listed (values listed (drop 4 image)) more (omega (arith, values_length listed (drop 4 image)))
      ∙ records_back listed (drop 4 image) a.walk.rights (bytes_from 4 image b) (omega (arith, listed_extent)) in
      rw (front, rest) (take-append-drop 4 image)

only_good : (v : Result ⊤ Fault) → is_ok v ≡ true → v ≡ Ok tt
only_good (Ok x) e = refl
only_good (Err fault) e = absurd (true≢false (sym e))

module _ (image : List ℕ) (a : Accepted image) (b : Bytes image) where
  held_at : (slot : ℕ) → slot < configured → get_or (configuration_in image) slot 0 ≡ data_in (size (entry listed slot)) (drop (offset listed slot) (drop 4 image))
  unfolding configuration_in
  held_at slot h = value_at listed (drop 4 image) slot (omega (arith, all_listed))

  -- the bytes of a slot's data are those of its word
  pub data_at : (slot : ℕ) → slot < configured
      → take (size (entry listed slot)) (drop 7 (drop (offset listed slot) (drop 4 image))) ≡ bytes (size (entry listed slot)) (get_or (configuration_in image) slot 0)
  unfolding data_in
  data_at slot h =
      let right = right_at listed (drop 4 image) a.walk.rights slot (omega (arith, all_listed)) in
      let room = right.room in
      sym (ap (bytes (size (entry listed slot))) (held_at slot h)
      ∙ part_back (size (entry listed slot)) 7 (drop (offset listed slot) (drop 4 image)) (bytes_from (offset listed slot) (drop 4 image) (bytes_from 4 image b)) room)

  below_size : (slot : ℕ) → slot < configured → get_or (configuration_in image) slot 0 < 256 ^ width (entry listed slot).range.kind
  unfolding data_in size
  below_size slot h =
      rw (held_at slot h) (little_below (size (entry listed slot)) (drop 7 (drop (offset listed slot) (drop 4 image)))
      (bytes_from 7 (drop (offset listed slot) (drop 4 image)) (bytes_from (offset listed slot) (drop 4 image) (bytes_from 4 image b))))

  in_its_range : (slot : ℕ) → slot < configured → in_range (entry listed slot).range (get_or (configuration_in image) slot 0) ≡ Ok tt
  unfolding fits
  in_its_range slot h =
      only_good _ (rw (held_at slot h) (right_at listed (drop 4 image) a.walk.rights slot (omega (arith, all_listed))).fit)

  pub configuration_valid : Valid (configuration_in image)
  configuration_valid =
      record {
        sized = λ slot h. subst (λ (r : Range). get_or (configuration_in image) slot 0 < 256 ^ width r.kind) (entry_range slot h) (below_size slot h);
        ranged = λ slot h. subst (λ (r : Range). in_range r (get_or (configuration_in image) slot 0) ≡ Ok tt) (entry_range slot h) (in_its_range slot h);
        linked = λ slot h. order_linked (configuration_in image) a.order slot;
      }
