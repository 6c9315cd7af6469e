-- The slots of a stretch, one after the other: where the next record stands, and what is noted so far.
-- Assumes nothing.
use mathlib.Core.Path.{◌≡◌, refl, sym, ap, subst, ◌∙◌}
use mathlib.Core.List.{List}
use Prim.Native.Nat.{ℕ, suc, ◌+◌, ◌-◌, ◌<◌, ◌≤◌}
use native.Mathlib.Omega.{arith}
use lib.Dec.{eqb}
use lib.ListN.{length, get_or, drop, length-drop}
use lib.Seq.{length-take-le}
use Rattle.numbers.specs.Order.{below}
use Rattle.numbers.specs.Signed.{signed16}
use Rattle.entries.specs.Judge.{held}
use Rattle.records.specs.Walk.{size_in}
use Rattle.image.specs.Reading.{reading, configuration_in}
use Rattle.sending.specs.Sending.{stretch, differs}
use Rattle.lists.specs.Changes.{place_of}
use Rattle.lists.specs.Noting.{Stands, Both, record_from, word_from, Once, Room, Further}
use Rattle.lists.specs.declared.changes.types.Noted.{Noted}
use Rattle.lists.proofs.changes.NotingLaws.{fewer, further_none, further_once, stretch_none, stretch_next, stretch_length}
use Rattle.lists.proofs.changes.StandingLaws.{next_is, size_is, stands, word_is, before_the_end}
use Rattle.std.specs.Prelude.{Ok}

pub record Way (current wanted notes₀ : List ℕ) (from to : ℕ) (had : Noted) (notes : List ℕ) (n : Noted) (slot place : ℕ) : Type 0 where
  pub here : place ≡ place_of slot
  pub since : from ≤ slot
  pub until : slot ≤ to
  pub done : Further current wanted (stretch from slot) notes₀ had notes n

pub way_begun : {current wanted notes₀ : List ℕ} {from to at : ℕ} {had : Noted} → from ≤ to → at ≡ place_of from → Way current wanted notes₀ from to had notes₀ had from at
way_begun {from = from} h e = record { here = e; since = omega arith; until = h; done = rw (stretch_none from) (further_none _ _) }

pub way_done : {current wanted notes₀ : List ℕ} {from to : ℕ} {had : Noted} {notes : List ℕ} {n : Noted} {slot place : ℕ}
    → Way current wanted notes₀ from to had notes n slot place → to ≤ slot → Further current wanted (stretch from to) notes₀ had notes n
way_done {current} {wanted} {notes₀} {from} {to} {had} {notes} {n} {slot} w h =
    let until = w.until in
    let same : slot ≡ to = omega arith in
    subst (λ (s : ℕ). Further current wanted (stretch from s) notes₀ had notes n) same w.done

module _ (current wanted notes₀ : List ℕ) (from to : ℕ) (had : Noted) (notes : List ℕ) (n : Noted) (slot place : ℕ)
    (g : reading current ≡ Ok tt) (h : reading wanted ≡ Ok tt) (top : to ≤ 611) (r : Room (to - from) notes₀ had)
    (w : Way current wanted notes₀ from to had notes n slot place) (more : slot < to) where
  small : slot < 611
  small = omega arith

  pub standing : Stands current place
  standing = subst (Stands current) (sym w.here) (stands current g slot small)

  pub free : Room 1 notes n
  free =
      let since = w.since in
      fewer (omega arith) (w.done.room (to - slot) (fewer (omega (arith, stretch_length from slot)) r))

  module _ {size : ℕ} (e : size ≡ size_in (drop place current)) where
    pub both : Both current wanted place size
    both =
        let room = before_the_end current g slot small in
        record {
          early = omega (arith, w.here);
          first = standing;
          second = subst (Stands wanted) (sym w.here) (stands wanted h slot small);
          size_first = e;
          size_second = e ∙ rw w.here (size_is current g slot small ∙ sym (size_is wanted h slot small));
        }

    record_long : 7 + size ≡ length (record_from wanted (place_of slot))
    unfolding record_from
    record_long =
        let inside = both.second.inside in
        let room = length-drop place wanted in
        rw (← w.here, ← both.size_second) (sym (length-take-le (7 + size) (drop place wanted) (omega (arith, both.size_second))))

    word_at : (image : List ℕ) → reading image ≡ Ok tt → word_from image place ≡ get_or (configuration_in image) slot 0
    word_at image q = ap (word_from image) w.here ∙ word_is image q slot small

    pub way_on : {notes' : List ℕ} {n' : Noted}
        → Once (eqb (word_from current place) (word_from wanted place)) (below (signed16 (word_from current place)) (signed16 (word_from wanted place))) place (7 + size) notes n notes' n'
        → Way current wanted notes₀ from to had notes' n' (slot + 1) (place + (7 + size))
    unfolding differs held
    way_on o =
        let since = w.since in
        let next : place_of (suc slot) ≡ place + (7 + size) = next_is current g slot small ∙ rw (e, w.here) in
        let step : slot + 1 ≡ suc slot = omega arith in
        let most = standing.small in
        record {
          here = sym next ∙ ap place_of (sym step);
          since = omega arith;
          until = omega arith;
          done =
              rw (stretch_next from slot since)
              (further_once current wanted (stretch from slot) slot refl w.done (eqb (get_or (configuration_in current) slot 0) (get_or (configuration_in wanted) slot 0)) refl
              record_long (omega (arith, e)) free (rw (← word_at current g, ← word_at wanted h, ← w.here) o));
        }
