-- The promises of a restore list.
-- Assumes nothing.
use mathlib.Core.Path.{◌≡◌, refl, sym, ap, subst, ◌∙◌}
use mathlib.Core.Bool.{false}
use mathlib.Core.List.{List, [], ◌∷◌, ◌++◌, map, flat_map, append_assoc, append-nil}
use mathlib.Core.Logic.{◌⊎◌, inl, inr}
use Prim.Native.Nat.{ℕ, ◌+◌}
use native.Mathlib.Omega.{arith}
use lib.IntN.{ℤ, pos, negsuc, neg_ℤ}
use lib.ListN.{length, take, drop, length-map}
use lib.Seq.{drop-append_seam}
use borrow.Author.Tests.{le-ltb}
use Rattle.octets.specs.Little.{little, bytes}
use Rattle.numbers.specs.Order.{below}
use Rattle.roles.specs.Values.{at_start}
use Rattle.sdo.specs.Answers.{size_of}
use Rattle.sdo.specs.Frames.{reply, reply_to}
use Rattle.records.specs.Layout.{record_in, image_of}
use Rattle.records.specs.Walk.{number}
use Rattle.records.specs.declared.types.Refusal.{Refusal}
use Rattle.records.specs.declared.types.Refusal.TheVariants.{OutOfRange, OutOfOrder}
use Rattle.image.specs.Reading.{reading, configuration_in}
use Rattle.image.proofs.reading.Acceptance.{accepted, not_good}
use Rattle.sending.specs.Sending.{sends, apart}
use Rattle.sending.proofs.Counting.{sends_apart, none_apart}
use Rattle.sending.proofs.Totals.{total_length}
use Rattle.sending.proofs.Underway as Sending
use Rattle.lists.specs.Changes.{changes, list_of}
use Rattle.lists.specs.Listing.{left_by}
use Rattle.gateway.specs.Restored.{told, outcome}
use Rattle.promises.specs.Delivery.{frames_in}
use Rattle.promises.specs.Running.{run}
use Rattle.gateway.proofs.LengthLaws.{list_short}
use Rattle.promises.proofs.ListFrames.{frame_at, count_is, list_long, list_frames}
use Rattle.promises.specs.Restoring.{Proper, Called, list_left, Holds, Restoring, Sent, AlwaysFits, CountIsDifference, EqualImages, EachAccepted, Arrives, one_record, record_bytes, Shortest, CutAnywhere, TakenUpAgain, OwnImage, Reaches, TurnedAwayExactly, RefusedListsWriteNothing, OneList}
use Rattle.promises.proofs.Listed.{wanted_refused, number_is, buffer_is, left_is}
use Rattle.promises.proofs.Proper.{good, proper, proper_good, read_as, saved_again, saved_held}
use Rattle.promises.proofs.Reached.{only_valid, reaches}
use Rattle.promises.proofs.Running.{always_sound}
use Rattle.promises.proofs.Spent.{paid}
use Rattle.promises.proofs.Underway.{Going, begun, ended, next, further, front_is}
use Rattle.std.specs.Prelude.{Result, Ok, Err}
use Rattle.lists.specs.declared.types.Unmade.{Unmade}
use Rattle.lists.specs.declared.types.Unmade.TheVariants.{Current, Wanted, NoRoom}

-- ---- a call, and a unit that holds the current configuration

module _ {current wanted buffer buffer' : List ℕ} {r : ℤ} (h : Called current wanted buffer buffer' r) where
  many : length (changes current wanted) ≡ apart (configuration_in current) (configuration_in wanted)
  unfolding changes
  many = sends_apart (configuration_in current) (configuration_in wanted)

  counted : little (take 4 buffer') ≡ apart (configuration_in current) (configuration_in wanted)
  unfolding list_of
  counted =
      let head = bytes 4 (length (changes current wanted)) in
      let records = flat_map (record_in wanted) (changes current wanted) in
      let behind = drop (length (list_of current wanted)) buffer in
      ap (λ (l : List ℕ). little (take 4 l)) (buffer_is h ∙ append_assoc head records behind) ∙ count_is current wanted (records ++ behind) ∙ many

  frames_many : length (frames_in (list_left r buffer')) ≡ apart (configuration_in current) (configuration_in wanted)
  frames_many =
      ap (λ (l : List ℕ). length (frames_in l)) (left_is h) ∙ ap length (list_frames current wanted (good h.second)) ∙ length-map (changes current wanted) (frame_at wanted) ∙ many

module _ {current wanted buffer buffer' : List ℕ} {r : ℤ} {unit : List ℕ} (h : Restoring current wanted buffer buffer' r unit) where
  -- whatever was sent, and came between
  there : {sent rest : List (List ℕ)} {unit' : List ℕ} → frames_in (list_left r buffer') ≡ sent ++ rest → Sent sent unit unit' → Going current wanted rest unit'
  there e s =
      let c = h.called in
      further current wanted c.first c.second s
      (subst (λ (f : List (List ℕ)). Going current wanted f unit) (sym (ap frames_in (left_is c)) ∙ e) (begun current wanted c.second h.holds))

-- ---- the promises

pub always_fits : AlwaysFits
always_fits current wanted buffer buffer' r h =
    rw (left_is h) (
      number_is h,
      list_short current wanted (good h.second),
      ap (drop (length (list_of current wanted))) (buffer_is h)
          ∙ drop-append_seam (list_of current wanted) (drop (length (list_of current wanted)) buffer),
    )

pub count_is_difference : CountIsDifference
count_is_difference current wanted buffer buffer' r h = (counted h, frames_many h)

pub equal_images : EqualImages
unfolding list_of bytes flat_map
equal_images image buffer buffer' r h =
    let a = configuration_in image in
    let none : changes image image ≡ [] = empty (changes image image) (many h ∙ none_apart a a (λ k l. refl)) in
    let list : list_of image image ≡ 0 ∷ 0 ∷ 0 ∷ 0 ∷ [] = ap (λ (slots : List ℕ). bytes 4 (length slots) ++ flat_map (record_in image) slots) none in
    (number_is h ∙ ap (λ (l : List ℕ). pos (length l)) list, left_is h ∙ list)
  where
    empty : (l : List ℕ) → length l ≡ 0 → l ≡ []
    empty [] e = refl
    empty (x ∷ l) e = absurd (omega arith)

pub each_accepted : EachAccepted
unfolding reply_to reply bytes
each_accepted current wanted buffer buffer' r unit h sent rest f unit' e s room k =
    rw ((next current wanted h.called.first h.called.second (there h e s)).answers room k)

pub arrives : Arrives
arrives current wanted buffer buffer' r unit h unit' s =
    let end = ended current wanted (there h (sym (append-nil (frames_in (list_left r buffer')))) s) in
    (end, saved_again h.called.second end)

pub shortest : Shortest
unfolding changes
shortest current wanted buffer buffer' r unit h events only e =
    let c = h.called in
    let a = configuration_in current in
    let b = configuration_in wanted in
    let records = paid (λ s. 1) one_record (λ slot word. omega arith) a b unit events only h.holds.front e in
    let all = paid (λ s. 7 + size_of s) record_bytes (λ slot word. omega arith) a b unit events only h.holds.front e in
    (omega (arith, frames_many c, many c, total_length (sends a b)), omega (arith, ap length (left_is c), list_long current wanted (good c.second)))

pub cut_anywhere : CutAnywhere
cut_anywhere current wanted buffer buffer' r unit h sent rest unit' e s slot l = Sending.either (there h e s).left slot l

pub taken_up_again : TakenUpAgain
unfolding changes
taken_up_again current wanted buffer buffer' r unit h sent rest unit' e s again again' n room restored =
    let g = there h e s in
    let c = h.called in
    let v = Sending.valid c.first.valid c.second.valid g.left in
    let own : Proper (image_of unit') × Holds unit' (configuration_in (image_of unit')) = saved_held unit' g.long v in
    let called : Called (image_of unit') wanted again again' n = record { first = own.0; second = c.second; room = room; restored = restored } in
    let same = Sending.again (Sending.as_well g.left (λ k l. sym (front_is unit' own.1.front k l))) in (
      record { called = called; holds = own.1 },
      ap frames_in (left_is called) ∙ list_frames (image_of unit') wanted (good called.second) ∙ ap (map (frame_at wanted)) same ∙ g.as_frames,
    )

pub own_image : OwnImage
own_image events made = let sound = always_sound events made in saved_held (run events at_start) sound.size sound.valid

-- ---- what is turned away

pub turned_away_exactly : TurnedAwayExactly
unfolding told below number
turned_away_exactly current wanted buffer buffer' r first complete room called unit h = go (read_as complete)
  where
    refused : {why : Refusal} → reading wanted ≡ Err why → (r ≡ told (Err (Wanted why))) × (Reaches unit (configuration_in wanted) → ⊥)
    refused e = (
      called.answered ∙ ap told (wanted_refused current wanted buffer (good first) e),
      λ reach. not_good (sym e ∙ proper_good complete (only_valid h reach first.valid)),
    )

    go : (reading wanted ≡ Ok tt) ⊎ ((reading wanted ≡ Err OutOfRange) ⊎ (reading wanted ≡ Err OutOfOrder))
        → ((below r (pos 0) ≡ false) × Reaches unit (configuration_in wanted))
        ⊎ (((r ≡ neg_ℤ (pos 15)) ⊎ (r ≡ neg_ℤ (pos 16))) × (Reaches unit (configuration_in wanted) → ⊥))
    go (inl e) =
        let second = proper complete.of_bytes (accepted wanted e) in
        let n = number_is (record { first = first; second = second; room = room; restored = called }) in
        inl (ap (λ (z : ℤ). below z (pos 0)) n ∙ le-ltb (length (list_of current wanted)) 0 (omega arith), reaches current wanted first second h)
    go (inr (inl e)) = let t = refused e in inr (inl t.0, t.1)
    go (inr (inr e)) = let t = refused e in inr (inr t.0, t.1)

pub refused_lists_write_nothing : RefusedListsWriteNothing
unfolding told left_by
refused_lists_write_nothing current wanted buffer buffer' n called = called.bytes ∙ go (outcome current wanted buffer) called.answered
  where
    go : (m : Result ℕ Unmade) → negsuc n ≡ told m → left_by m (list_of current wanted) buffer ≡ buffer
    go (Ok k) e = let z : ◌≡◌ {A = ℕ} 0 1 = cc in absurd (omega arith)
    go (Err (Current why)) e = refl
    go (Err (Wanted why)) e = refl
    go (Err NoRoom) e = refl

pub one_list : OneList
one_list current wanted buffer b₁ b₂ r s p q = (p.answered ∙ sym q.answered, p.bytes ∙ sym q.bytes)
