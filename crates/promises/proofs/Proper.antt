-- Which complete images are read as good: the proper ones; the others are refused for a value or a chain. A unit's own image is proper.
-- Assumes nothing.
use mathlib.Core.Path.{◌≡◌, refl, sym, ap, ◌∙◌}
use mathlib.Core.Bool.{Bool, true, false, not}
use mathlib.Core.List.{List, [], ◌∷◌, ◌++◌}
use mathlib.Core.Logic.{◌⊎◌, inl, inr}
use Prim.Native.Nat.{ℕ, suc, ◌+◌, ◌<◌, ◌≤◌}
use native.Mathlib.Omega.{arith}
use lib.ListN.{length, get_or, take, drop, length-drop, take-append-drop}
use borrow.Author.Tests.{le-ltb, eq-eqb}
use Rattle.octets.specs.Little.{little, bytes, Bytes}
use Rattle.octets.proofs.little.ByteLaws.{are_bytes}
use Rattle.numbers.specs.Choice.{first}
use Rattle.dictionary.specs.Names.{configured}
use Rattle.dictionary.specs.Unit.{unit_size}
use Rattle.dictionary.specs.declared.types.Range.{Range}
use Rattle.dictionary.proofs.naming.NameLaws as Names
use Rattle.entries.specs.Judge.{in_range}
use Rattle.entries.specs.Valid.{Valid}
use Rattle.records.specs.Layout.{Listed, listed, size, entry, extent, record_of, records, image_of}
use Rattle.records.specs.Walk.{size_in, index_in, sub_in, data_in, fits, values, valued, sized, decoded, and_then, behind, walked, taken_in}
use Rattle.records.specs.declared.types.Refusal.TheVariants.{OutOfRange, OutOfOrder}
use Rattle.records.proofs.RightLaws.{AllRight}
use Rattle.records.proofs.SizeLaws.{listed_extent}
use Rattle.image.specs.Reading.{in_order, reading, finished, configuration_in}
use Rattle.image.proofs.reading.Acceptance.{Accepted, accepted, accepts}
use Rattle.image.proofs.reading.PlaceLaws as Places
use Rattle.image.proofs.ChainTrips.{linked_order}
use Rattle.image.proofs.ImageTrips.{image_accepted, configuration_back, configuration_valid, bytes_again}
use Rattle.promises.specs.Restoring.{InPlace, Complete, Proper, Holds}
use Rattle.promises.proofs.RecordFrames.{bytes_join}
use Rattle.promises.proofs.Running.{sizes}
use Rattle.promises.proofs.Slots.{own_range}
use Rattle.std.specs.Prelude.{Result, Ok, Err, is_ok, ⊤}
use Rattle.records.specs.declared.types.Refusal.{Refusal}

-- ---- records in place

placed_long : (es : List Listed) (rest : List ℕ) → InPlace es rest → length rest ≡ extent es
unfolding extent
placed_long [] rest p = ap length p
placed_long (e ∷ es) rest p =
    let room = p.0 in
    let more = placed_long es (drop (7 + size e) rest) p.4 in
    let long = length-drop (7 + size e) rest in
    omega arith

placed_right : (es : List Listed) (rest : List ℕ) → InPlace es rest → ((k : ℕ) → k < length es → fits (entry es k) (get_or (values es rest) k 0) ≡ true) → AllRight es rest
unfolding AllRight values entry
placed_right [] rest p h = tt
placed_right (e ∷ es) rest p h = (
  record { room = p.0; index = p.1; sub = p.2; sized = p.3; fit = h 0 (omega arith) },
  placed_right es (drop (7 + size e) rest) p.4 (λ k l. h (suc k) (omega arith)),
)

right_placed : (es : List Listed) (rest : List ℕ) → AllRight es rest → length rest ≡ extent es → InPlace es rest
unfolding AllRight extent
right_placed [] [] a h = refl
right_placed [] (x ∷ rest) a h = absurd (omega arith)
right_placed (e ∷ es) rest a h =
    let r = a.0 in
    let long = length-drop (7 + size e) rest in
    (r.room, r.index, r.sub, r.sized, right_placed es (drop (7 + size e) rest) a.1 (omega arith))

-- they are taken, or a value is out of its range
placed_taken : (es : List Listed) (rest : List ℕ) → InPlace es rest → (walked es rest ≡ Ok (extent es)) ⊎ (walked es rest ≡ Err OutOfRange)
unfolding walked and_then behind extent decoded sized valued first
placed_taken [] rest p = inl refl
placed_taken (e ∷ es) rest p =
    rw (
      le-ltb (length rest) 7 (let room = p.0 in omega arith),
      eq-eqb (index_in rest) e.index p.1,
      eq-eqb (sub_in rest) e.sub p.2,
      eq-eqb (size_in rest) (size e) p.3,
      le-ltb (length rest) (7 + size e) p.0,
    )
    (go (fits e (data_in (size e) rest)) (walked es (drop (7 + size e) rest)) (placed_taken es (drop (7 + size e) rest) p.4))
  where
    go : (f : Bool) (more : Result ℕ Refusal) → (more ≡ Ok (extent es)) ⊎ (more ≡ Err OutOfRange)
        → (and_then (first (not f) (Err OutOfRange) (Ok (7 + size e))) more ≡ Ok (7 + size e + extent es))
        ⊎ (and_then (first (not f) (Err OutOfRange) (Ok (7 + size e))) more ≡ Err OutOfRange)
    go false more m = inr refl
    go true more (inl t) = inl (ap (behind (7 + size e)) t)
    go true more (inr t) = inr (ap (behind (7 + size e)) t)

-- ---- a complete image

module _ {image : List ℕ} (c : Complete image) where
  long : length image ≡ 5207
  long = omega (arith, length-drop 4 image, placed_long listed (drop 4 image) c.places, listed_extent, c.headed)

  -- is good, or is refused for a value or for a chain
  pub read_as : (reading image ≡ Ok tt) ⊎ ((reading image ≡ Err OutOfRange) ⊎ (reading image ≡ Err OutOfOrder))
  unfolding reading finished taken_in first behind
  read_as =
      rw (le-ltb (length image) 4 c.headed, eq-eqb (little (take 4 image)) configured c.count)
      (go (walked listed (drop 4 image)) (placed_taken listed (drop 4 image) c.places))
    where
      ended : (ordered : Bool)
          → (first {A = Result ⊤ Refusal} (not ordered) (Err OutOfOrder) (Ok tt) ≡ Ok tt)
          ⊎ ((first {A = Result ⊤ Refusal} (not ordered) (Err OutOfOrder) (Ok tt) ≡ Err OutOfRange) ⊎ (first {A = Result ⊤ Refusal} (not ordered) (Err OutOfOrder) (Ok tt) ≡ Err OutOfOrder))
      ended true = inl refl
      ended false = inr (inr refl)

      go : (w : Result ℕ Refusal) → (w ≡ Ok (extent listed)) ⊎ (w ≡ Err OutOfRange)
          → (finished image (behind 4 w) ≡ Ok tt) ⊎ ((finished image (behind 4 w) ≡ Err OutOfRange) ⊎ (finished image (behind 4 w) ≡ Err OutOfOrder))
      go w (inl t) = rw (t, le-ltb (4 + extent listed) (length image) (omega (arith, listed_extent, long))) (ended (in_order (configuration_in image)))
      go w (inr t) = inr (inl (rw t refl))

  -- a proper one is good
  pub proper_good : Valid (configuration_in image) → reading image ≡ Ok tt
  unfolding configuration_in fits
  proper_good v =
      accepts image (record {
        long = long;
        walk = record {
          headed = c.headed;
          counted = c.count;
          rights = placed_right listed (drop 4 image) c.places (λ k l. inside k (omega (arith, Places.counted, (Names.counted).0)));
        };
        order = linked_order (configuration_in image) v.linked;
      })
    where
      inside : (k : ℕ) → k < configured → fits (entry listed k) (get_or (configuration_in image) k 0) ≡ true
      inside k l = ap (λ (r : Range). is_ok (in_range r (get_or (configuration_in image) k 0))) (own_range k l) ∙ ap is_ok (v.ranged k l)

pub good : {image : List ℕ} → Proper image → reading image ≡ Ok tt
good p = proper_good p.complete p.valid

-- ---- and what reading accepts is proper

pub proper : {image : List ℕ} → Bytes image → Accepted image → Proper image
proper {image} b a =
    record {
      complete = record {
        of_bytes = b;
        headed = a.walk.headed;
        count = a.walk.counted;
        places = right_placed listed (drop 4 image) a.walk.rights (omega (arith, length-drop 4 image, a.long, listed_extent));
      };
      valid = configuration_valid image a b;
    }

-- it is saved again, byte for byte, by a unit that holds its configuration
pub saved_again : {image unit : List ℕ} → Proper image → Holds unit (configuration_in image) → image_of unit ≡ image
saved_again {image} {unit} p h =
    ap image_of (sym (take-append-drop configured unit) ∙ ap (λ (words : List ℕ). words ++ drop configured unit) h.front)
    ∙ bytes_again image (accepted image (good p)) p.complete.of_bytes (drop configured unit)

-- ---- a unit's own image

record_bytes : (e : Listed) (word : ℕ) → Bytes (record_of e word)
unfolding record_of
record_bytes e word =
    let name = bytes 2 e.index ++ bytes 1 e.sub in
    bytes_join (name ++ bytes 4 (size e)) (bytes (size e) word)
    (bytes_join name (bytes 4 (size e)) (bytes_join (bytes 2 e.index) (bytes 1 e.sub) (are_bytes 2 e.index) (are_bytes 1 e.sub)) (are_bytes 4 (size e)))
    (are_bytes (size e) word)

records_bytes : (es : List Listed) (words : List ℕ) → Bytes (records es words)
unfolding records
records_bytes [] words = λ i. omega arith
records_bytes (e ∷ es) [] = bytes_join (record_of e 0) (records es []) (record_bytes e 0) (records_bytes es [])
records_bytes (e ∷ es) (w ∷ words) = bytes_join (record_of e w) (records es words) (record_bytes e w) (records_bytes es words)

-- is proper, and the unit holds it
pub saved_held : (unit : List ℕ) → length unit ≡ unit_size → Valid unit → Proper (image_of unit) × Holds unit (configuration_in (image_of unit))
unfolding image_of
saved_held unit long v =
    let all : configured ≤ length unit = omega (arith, sizes) in (
      proper (bytes_join (bytes 4 configured) (records listed unit) (are_bytes 4 configured) (records_bytes listed unit)) (image_accepted unit v all),
      record { long = long; front = sym (configuration_back unit v all) },
    )
