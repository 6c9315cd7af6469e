-- The records of an accepted image, each at its place.
-- Assumes nothing.
use mathlib.Core.Path.{◌≡◌, sym, ap, subst, ◌∙◌}
use mathlib.Core.List.{List, [], ◌∷◌}
use Prim.Native.Nat.{ℕ, zero, suc, ◌+◌, ◌<◌}
use native.Mathlib.Nat.{le_of_suc-le-suc, not-suc-le-zero}
use native.Mathlib.Omega.{arith}
use lib.ListN.{length, get_or, take, drop, length-drop}
use lib.Seq.{drop-drop, length-take-le}
use Rattle.dictionary.specs.Rows.{width}
use Rattle.dictionary.specs.declared.types.Kind.{Kind}
use Rattle.dictionary.specs.declared.types.Kind.TheVariants.{Unsigned8, Integer16, Unsigned16, Real32, Unsigned32}
use Rattle.records.specs.Layout.{Listed, listed, size, entry, offset, record_in}
use Rattle.records.specs.Walk.{size_in}
use Rattle.records.proofs.RightLaws.{Right}
use Rattle.roles.proofs.widths.WidthLaws.{at_most_four}
use Rattle.image.specs.Reading.{reading, configuration_in}
use Rattle.image.proofs.reading.Acceptance.{accepted}
use Rattle.image.proofs.reading.PlaceLaws.{counted, value_at, right_at}
use Rattle.lists.specs.Changes.{place_of}
use Rattle.lists.specs.Noting.{Stands, record_from, word_from}
use Rattle.std.specs.Prelude.{Ok}

at_least_one : (k : Kind) → 0 < width k
unfolding width
at_least_one Unsigned8 = omega arith
at_least_one Integer16 = omega arith
at_least_one Unsigned16 = omega arith
at_least_one Real32 = omega arith
at_least_one Unsigned32 = omega arith

offset_next : (es : List Listed) (slot : ℕ) → slot < length es → offset es (suc slot) ≡ offset es slot + 7 + size (entry es slot)
unfolding offset entry
offset_next [] slot h = absurd (not-suc-le-zero h)
offset_next (e ∷ []) zero h = omega arith
offset_next (e ∷ f ∷ es) zero h = omega arith
offset_next (e ∷ es) (suc slot) h = let more = offset_next es slot (le_of_suc-le-suc h) in omega arith

next_place : (slot : ℕ) → slot < 611 → place_of (suc slot) ≡ place_of slot + 7 + size (entry listed slot)
unfolding place_of
next_place slot h = let next = offset_next listed slot (omega (arith, counted)) in omega arith

module _ (image : List ℕ) (g : reading image ≡ Ok tt) (slot : ℕ) (h : slot < 611) where
  pub at_place : drop (offset listed slot) (drop 4 image) ≡ drop (place_of slot) image
  unfolding place_of
  at_place = drop-drop (offset listed slot) 4 image

  pub right : Right (entry listed slot) (drop (place_of slot) image)
  right = subst (Right (entry listed slot)) at_place (right_at listed (drop 4 image) (accepted image g).walk.rights slot (omega (arith, counted)))

  pub size_is : size_in (drop (place_of slot) image) ≡ size (entry listed slot)
  size_is = right.sized

  pub next_is : place_of (suc slot) ≡ place_of slot + (7 + size_in (drop (place_of slot) image))
  next_is = let next = next_place slot h in omega (arith, size_is)

  pub stands : Stands image (place_of slot)
  unfolding size
  stands =
      let room = right.room in
      let long = length-drop (place_of slot) image in
      let some = at_least_one (entry listed slot).range.kind in
      let most = at_most_four (entry listed slot).range.kind in
      record { some = omega (arith, size_is); small = omega (arith, size_is); inside = omega (arith, size_is) }

  pub word_is : word_from image (place_of slot) ≡ get_or (configuration_in image) slot 0
  unfolding word_from configuration_in
  word_is = sym (value_at listed (drop 4 image) slot (omega (arith, counted)) ∙ rw (at_place, size_is))

  pub record_is : record_from image (place_of slot) ≡ record_in image slot
  unfolding record_from record_in place_of
  record_is = ap (λ (n : ℕ). take (7 + n) (drop (place_of slot) image)) size_is

  pub record_length : length (record_in image slot) ≡ 7 + size (entry listed slot)
  unfolding record_in place_of
  record_length =
      let room = right.room in
      length-take-le (7 + size (entry listed slot)) (drop (place_of slot) image) (omega arith)

  pub before_the_end : place_of slot + 7 < 5207
  before_the_end = let inside = stands.inside in let some = stands.some in omega (arith, (accepted image g).long)
