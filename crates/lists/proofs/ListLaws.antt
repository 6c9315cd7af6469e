-- The list from what was found between two images: refused, without room, or written.
-- Assumes nothing.
use mathlib.Core.Path.{◌≡◌, refl, sym, ap, ◌∙◌}
use mathlib.Core.List.{List, ◌++◌, flat_map, append_assoc}
use Prim.Native.Nat.{ℕ, ◌+◌, ◌-◌, ◌<◌, ◌≤◌}
use native.Mathlib.Nat.{zero-add}
use native.Mathlib.Omega.{arith}
use lib.ListN.{length, take, drop, length-append}
use lib.Seq.{sets, sets-eq, length-sets, take_at, drop_at, length-take-le}
use borrow.Author.Tests.{lt-ltb, le-ltb}
use Rattle.octets.specs.Little.{bytes}
use Rattle.octets.proofs.little.ByteLaws.{bytes_length}
use Rattle.numbers.specs.Choice.{first}
use Rattle.records.specs.declared.types.Refusal.{Refusal}
use Rattle.image.specs.Reading.{reading}
use Rattle.lists.specs.Changes.{list_of, places, noted, found, noting, Finding}
use Rattle.lists.specs.Noting.{record_from}
use Rattle.lists.specs.declared.changes.types.Noted.{Noted}
use Rattle.lists.proofs.changes.OrderLaws.{in_notes, list_by_places, each_stands}
use Rattle.lists.specs.Copying.{Standing}
use Rattle.lists.specs.Listing.{made, left_by, Listing}
use Rattle.std.specs.Prelude.{Result, Ok, Err, ⊤}
use Rattle.lists.specs.declared.types.Unmade.{Unmade}
use Rattle.lists.specs.declared.types.Unmade.TheVariants.{Current, Wanted, NoRoom}

-- ---- what was found tells what reading found

module _ {current wanted notes notes' : List ℕ} {r : Result Noted Unmade} (f : Finding current wanted notes notes' r) where
  pub refused : {why : Unmade} (buffer : List ℕ) → r ≡ Err why → Listing current wanted buffer buffer (Err why)
  unfolding found made left_by
  refused {why} buffer e = go (reading current) (reading wanted) refl refl (sym f.answered ∙ e)
    where
      go : (a b : Result ⊤ Refusal) → reading current ≡ a → reading wanted ≡ b → found a b (noted current wanted) ≡ Err why → Listing current wanted buffer buffer (Err why)
      go (Err x) b p w q = let same : why ≡ Current x = cc in record { answered = rw p (ap Err same); bytes = refl }
      go (Ok _) (Err x) p w q = let same : why ≡ Wanted x = cc in record { answered = rw (p, w) (ap Err same); bytes = refl }
      go (Ok _) (Ok _) p w q = absurd cc

  pub is_places : {n : Noted} → r ≡ Ok n
      → (reading current ≡ Ok tt) × (reading wanted ≡ Ok tt) × (n ≡ noted current wanted) × (notes' ≡ sets notes n.low (places current wanted))
  unfolding found noting
  is_places {n} e = go (reading current) (reading wanted) refl refl (sym f.answered ∙ e)
    where
      go : (a b : Result ⊤ Refusal) → reading current ≡ a → reading wanted ≡ b → found a b (noted current wanted) ≡ Ok n
          → (reading current ≡ Ok tt) × (reading wanted ≡ Ok tt) × (n ≡ noted current wanted) × (notes' ≡ sets notes n.low (places current wanted))
      go (Err x) b p w q = absurd cc
      go (Ok _) (Err x) p w q = absurd cc
      go (Ok _) (Ok _) p w q = (p, w, cc, f.laid ∙ ap (λ (x : Result Noted Unmade). noting x notes (places current wanted)) e)

-- ---- without room

module _ (current wanted buffer : List ℕ) {n : Noted} (g : reading current ≡ Ok tt) (h : reading wanted ≡ Ok tt) (e : n ≡ noted current wanted) where
  long_is : n.long ≡ length (list_of current wanted)
  unfolding noted
  long_is = ap (λ (m : Noted). m.long) e

  pub no_room : length buffer < n.long → Listing current wanted buffer buffer (Err NoRoom)
  unfolding made left_by first
  no_room l = record { answered = rw (g, h, lt-ltb (length buffer) (length (list_of current wanted)) (omega (arith, long_is))); bytes = refl }

  -- ---- written

  pub within : (n.low ≤ n.high) × (n.high ≤ 1222)
  within = let places = in_notes current wanted in rw e (omega (arith, places.0), places.1)

  module _ (notes : List ℕ) {notes' : List ℕ} (l : notes' ≡ sets notes n.low (places current wanted)) (long : length notes ≡ 1222) where
    pub inside : n.high ≤ length notes'
    inside = let same = ap length l ∙ length-sets notes n.low (places current wanted) in omega (arith, within.1)

    pub part_is : take (n.high - n.low) (drop n.low notes') ≡ places current wanted
    part_is =
        let low = ap (λ (m : Noted). m.low) e in
        let high = ap (λ (m : Noted). m.high) e in
        let in-them = in_notes current wanted in
        let many : n.high - n.low ≡ length (places current wanted) = omega (arith, in-them.0) in
        let front = length-take-le n.low notes (omega (arith, in-them.0, in-them.1)) in
        rw (many, l, sets-eq (places current wanted) notes n.low (omega (arith, in-them.0, in-them.1)), append_assoc (take n.low notes) (places current wanted) (drop (n.low + length (places current wanted)) notes))
        (ap (take (length (places current wanted))) (drop_at (take n.low notes) (places current wanted ++ drop (n.low + length (places current wanted)) notes) n.low front)
        ∙ take_at (places current wanted) (drop (n.low + length (places current wanted)) notes) (length (places current wanted)) refl)

  room_is : n.long ≤ length buffer → 4 + length (flat_map (record_from wanted) (places current wanted)) ≤ length buffer
  room_is r =
      let all = ap length (sym (list_by_places current wanted h)) ∙ length-append (bytes 4 (length (places current wanted))) (flat_map (record_from wanted) (places current wanted)) in
      omega (arith, long_is, bytes_length 4 (length (places current wanted)))

  module _ {part : List ℕ} (p : part ≡ places current wanted) (r : n.long ≤ length buffer) where
    pub can_be_written : Standing wanted part × (4 + length (flat_map (record_from wanted) part) ≤ length buffer)
    can_be_written = rw p (record { each = each_stands current wanted h }, room_is r)

    pub written : {buffer' : List ℕ} → buffer' ≡ sets buffer 0 (bytes 4 (length part) ++ flat_map (record_from wanted) part) → Listing current wanted buffer buffer' (Ok n.long)
    unfolding made left_by first
    written q =
        let long = long_is in
        record {
          answered = rw (g, h, le-ltb (length buffer) (length (list_of current wanted)) (omega arith), long);
          bytes = q ∙ rw (p, list_by_places current wanted h, long) (sets-eq (list_of current wanted) buffer 0 (omega arith) ∙ ap (λ (k : ℕ). list_of current wanted ++ drop k buffer) (zero-add (length (list_of current wanted))));
        }
