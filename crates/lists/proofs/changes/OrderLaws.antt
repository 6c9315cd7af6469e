-- All slots in send order are noted: their places are those of a list, as many as it has records.
-- Assumes nothing.
use mathlib.Core.Path.{◌≡◌, refl, sym, ap, ◌∙◌}
use mathlib.Core.Bool.{Bool, true, false, not, ◌&&◌, and-eq-true_iff}
use mathlib.Core.List.{List, [], ◌∷◌, ◌++◌, map, reverse, flat_map, append-nil, append_assoc, map-append, reverse-append}
use Prim.Native.Nat.{ℕ, zero, suc, ◌+◌, ◌-◌, ◌<◌, ◌≤◌}
use native.Mathlib.Nat.{add_assoc, le_of_suc-le-suc, not-suc-le-zero}
use native.Mathlib.Omega.{arith}
use lib.Dec.{ltb}
use lib.ListN.{length, get_or, length-append, length-map, length-reverse}
use lib.Seq.{sets}
use borrow.Author.Tests.{ltb-true}
use Rattle.octets.specs.Little.{bytes}
use Rattle.octets.proofs.little.ByteLaws.{bytes_length}
use Rattle.numbers.specs.Choice.{first, every}
use Rattle.numbers.specs.Order.{below}
use Rattle.dictionary.specs.Names.{configured, slot_of}
use Rattle.dictionary.specs.Rows.{width}
use Rattle.entries.specs.Judge.{held}
use Rattle.records.specs.Layout.{listed, size, offset, record_in}
use Rattle.image.specs.Reading.{reading, configuration_in}
use Rattle.sending.specs.Sending.{slots_from, stretch, order, picked, differs, grows, rises, falls, sent, sends}
use Rattle.sending.proofs.Counting.{all_inside, each_inside}
use Rattle.sending.proofs.Picked.{picked_append}
use Rattle.lists.specs.Changes.{changes, list_of, place_of, places, noted}
use Rattle.lists.specs.Noting.{Stands, record_from, State, Room, Further, joined, laid}
use Rattle.lists.specs.declared.changes.types.Noted.{Noted}
use Rattle.lists.proofs.changes.NotingLaws.{fewer, stretch_length}
use Rattle.lists.proofs.changes.StandingLaws.{record_is, stands}
use Rattle.std.specs.Prelude.{Ok}

-- ---- stretch after stretch

laid_append : (a b xs ys ps : List ℕ) → laid a b (xs ++ ys) ps ≡ laid a b ys (laid a b xs ps)
unfolding laid
laid_append a b [] ys ps = refl
laid_append a b (x ∷ xs) ys ps = laid_append a b xs ys (joined (differs a b x) (below (held a x) (held b x)) (place_of x) ps)

both_further : {current wanted : List ℕ} (xs ys : List ℕ) {notes notes' notes'' : List ℕ} {n n' n'' : Noted}
    → Further current wanted xs notes n notes' n' → Further current wanted ys notes' n' notes'' n'' → Further current wanted (xs ++ ys) notes n notes'' n''
both_further {current} {wanted} xs ys f g =
    let a = configuration_in current in
    let b = configuration_in wanted in
    let long = length-append xs ys in
    record {
      states = λ notes₀ ups ps s.
          rw (picked_append (rises a b) xs ys, length-append (picked (rises a b) xs) (picked (rises a b) ys), ← add_assoc ups (length (picked (rises a b) xs)) (length (picked (rises a b) ys)), laid_append a b xs ys ps)
          (g.states notes₀ _ _ (f.states notes₀ ups ps s));
      length_kept = g.length_kept ∙ f.length_kept;
      room = λ more r. g.room more (f.room (length ys + more) (fewer (omega arith) r));
    }

-- ---- what is laid is what is sent

module _ (a b : List ℕ) where
  joined_sent : (done : List ℕ) (s : ℕ) → joined (differs a b s) (below (held a s) (held b s)) (place_of s) (map place_of (sent a b done)) ≡ map place_of (sent a b (done ++ s ∷ []))
  unfolding sent grows rises falls picked first joined
  joined_sent done s =
      rw (picked_append (rises a b) done (s ∷ []), picked_append (falls a b) done (s ∷ [])) (go (differs a b s) (below (held a s) (held b s)))
    where
      go : (d u : Bool) → joined d u (place_of s) (map place_of (reverse (picked (rises a b) done) ++ picked (falls a b) done))
          ≡ map place_of (reverse (picked (rises a b) done ++ first (d && u) (s ∷ []) []) ++ (picked (falls a b) done ++ first (d && not u) (s ∷ []) []))
      go true true = rw (reverse-append (picked (rises a b) done) (s ∷ []), append-nil (picked (falls a b) done))
      go true false =
          rw (append-nil (picked (rises a b) done), ← append_assoc (reverse (picked (rises a b) done)) (picked (falls a b) done) (s ∷ []))
          (sym (map-append place_of (reverse (picked (rises a b) done) ++ picked (falls a b) done) (s ∷ [])))
      go false u = rw (append-nil (picked (rises a b) done), append-nil (picked (falls a b) done))

  laid_sent : (done slots : List ℕ) → laid a b slots (map place_of (sent a b done)) ≡ map place_of (sent a b (done ++ slots))
  unfolding laid
  laid_sent done [] = ap (λ (l : List ℕ). map place_of (sent a b l)) (sym (append-nil done))
  laid_sent done (s ∷ slots) =
      ap (laid a b slots) (joined_sent done s) ∙ laid_sent (done ++ s ∷ []) slots
      ∙ ap (λ (l : List ℕ). map place_of (sent a b l)) (append_assoc done (s ∷ []) slots)

-- ---- the records at these places

same_records : (image : List ℕ) → reading image ≡ Ok tt → (ss : List ℕ) → every (λ s. ltb s configured) ss ≡ true
    → flat_map (record_from image) (map place_of ss) ≡ flat_map (record_in image) ss
unfolding every flat_map configured
same_records image g [] e = refl
same_records image g (s ∷ ss) e =
    let both = (and-eq-true_iff (ltb s 611) (every (λ s. ltb s 611) ss)).0 e in
    rw (record_is image g s (ltb-true s 611 both.0), same_records image g ss both.1)

getD_place : (ss : List ℕ) (k : ℕ) → k < length ss → get_or (map place_of ss) k 0 ≡ place_of (get_or ss k 0)
getD_place [] k h = absurd (not-suc-le-zero h)
getD_place (s ∷ ss) zero h = refl
getD_place (s ∷ ss) (suc k) h = getD_place ss k (le_of_suc-le-suc h)

-- ---- the whole

fields : (n : Noted) {low high long : ℕ} → n.low ≡ low → n.high ≡ high → n.long ≡ long → n ≡ record { low = low; high = high; long = long }
fields n p q r = rw (← p, ← q, ← r)

many : configured ≡ 611
unfolding configured
many = refl

-- no more than all slots are picked
fewer_picked : (test : ℕ → Bool) (slots : List ℕ) → length (picked test slots) ≤ length slots
unfolding picked first
fewer_picked test [] = omega arith
fewer_picked test (s ∷ slots) = go (test s) (fewer_picked test slots)
  where
    go : (t : Bool) → length (picked test slots) ≤ length slots → length (first t (s ∷ picked test slots) (picked test slots)) ≤ suc (length slots)
    go true h = omega arith
    go false h = omega arith

all_slots : length order ≡ 611
unfolding order slot_of configured stretch slots_from
all_slots = refl

module _ (current wanted : List ℕ) where
  ups : List ℕ
  ups = picked (rises (configuration_in current) (configuration_in wanted)) order

  downs : List ℕ
  downs = picked (falls (configuration_in current) (configuration_in wanted)) order

  as_many : length (places current wanted) ≡ length ups + length downs
  unfolding places changes sends sent ups downs
  as_many =
      length-map (changes current wanted) place_of
      ∙ length-append (reverse ups) downs
      ∙ ap (λ (k : ℕ). k + length downs) (length-reverse ups)

  -- the places stand in one part of the notes
  pub in_notes : ((noted current wanted).low + length (places current wanted) ≡ (noted current wanted).high) × ((noted current wanted).high ≤ 1222)
  unfolding noted ups downs
  in_notes =
      let total = as_many in
      let up = fewer_picked (rises (configuration_in current) (configuration_in wanted)) order in
      let down = fewer_picked (falls (configuration_in current) (configuration_in wanted)) order in
      (omega (arith, many, all_slots), omega (arith, many, all_slots))

  module _ (g : reading wanted ≡ Ok tt) where
    -- the list, by these places
    pub list_by_places : bytes 4 (length (places current wanted)) ++ flat_map (record_from wanted) (places current wanted) ≡ list_of current wanted
    unfolding list_of places changes
    list_by_places =
        rw (length-map (changes current wanted) place_of, same_records wanted g (changes current wanted) (all_inside (configuration_in current) (configuration_in wanted)))

    as_long : length (list_of current wanted) ≡ 4 + length (flat_map (record_from wanted) (places current wanted))
    as_long =
        ap length (sym list_by_places) ∙ length-append (bytes 4 (length (places current wanted))) (flat_map (record_from wanted) (places current wanted))
        ∙ rw (bytes_length 4 (length (places current wanted)))

    pub each_stands : (k : ℕ) → k < length (places current wanted) → Stands wanted (get_or (places current wanted) k 0)
    unfolding places changes configured
    each_stands k h =
        let short = length-map (changes current wanted) place_of in
        rw (getD_place (changes current wanted) k (omega arith)) (stands wanted g _ (each_inside (configuration_in current) (configuration_in wanted) k (omega arith)))

module _ (current wanted notes notes' : List ℕ) (n : Noted) (g : reading wanted ≡ Ok tt) (f : Further current wanted order notes (record { low = 611; high = 611; long = 4 }) notes' n) where
  end : State wanted notes (0 + length (ups current wanted)) (places current wanted) notes' n
  unfolding sent sends places changes picked flat_map ups
  end =
      rw (← laid_sent (configuration_in current) (configuration_in wanted) [] order)
      (f.states notes 0 [] (record { middle = refl; stored = refl; high = refl; long = refl }))

  pub all_noted : (n ≡ noted current wanted) × (notes' ≡ sets notes n.low (places current wanted))
  unfolding noted ups downs
  all_noted =
      let middle = end.middle in
      let total = as_many current wanted in
      (fields n (omega (arith, many)) (omega (arith, many, end.high)) (end.long ∙ sym (as_long current wanted g)), end.stored)

-- ---- the stretches, by computing

in_stretches : order ≡ stretch 0 567 ++ stretch 583 587 ++ stretch 567 583 ++ stretch 587 611
unfolding order slot_of configured stretch slots_from
in_stretches = refl

pub all_further : {current wanted notes first second third fourth : List ℕ} {n n₁ n₂ n₃ n₄ : Noted}
    → Further current wanted (stretch 0 567) notes n first n₁ → Further current wanted (stretch 583 587) first n₁ second n₂
    → Further current wanted (stretch 567 583) second n₂ third n₃ → Further current wanted (stretch 587 611) third n₃ fourth n₄
    → Further current wanted order notes n fourth n₄
all_further f g h k =
    rw in_stretches
    (both_further (stretch 0 567 ++ stretch 583 587 ++ stretch 567 583) (stretch 587 611)
    (both_further (stretch 0 567 ++ stretch 583 587) (stretch 567 583) (both_further (stretch 0 567) (stretch 583 587) f g) h) k)

pub begins : (4 ≡ place_of 0) × (4955 ≡ place_of 583) × (4811 ≡ place_of 567) × (4991 ≡ place_of 587)
unfolding place_of offset listed size width
begins = (refl, refl, refl, refl)

pub room_at_first : {notes : List ℕ} → length notes ≡ 1222 → Room 611 notes (record { low = 611; high = 611; long = 4 })
room_at_first h = record { sorted = omega arith; before = omega arith; behind = omega (arith, h); short = omega arith }

-- what is left of the room behind a stretch
pub room_left : {current wanted : List ℕ} (from to more : ℕ) {notes notes' : List ℕ} {n n' : Noted}
    → Further current wanted (stretch from to) notes n notes' n' → Room (to - from + more) notes n → Room more notes' n'
room_left from to more f r = f.room more (fewer (omega (arith, stretch_length from to)) r)
