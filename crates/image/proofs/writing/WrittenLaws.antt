-- The count, and behind it the records of all entries, are the image; where it does not fit nothing is written.
-- Assumes nothing.
use mathlib.Core.Path.{◌≡◌, refl, ap, ◌∙◌}
use mathlib.Core.List.{List, ◌++◌}
use Prim.Native.Nat.{ℕ, ◌<◌, ◌≤◌}
use native.Mathlib.Omega.{arith}
use lib.ListN.{length, drop}
use lib.Seq.{sets, sets-eq, length-sets}
use borrow.Author.Tests.{lt-ltb, le-ltb}
use Rattle.octets.specs.Little.{bytes}
use Rattle.octets.proofs.little.ByteLaws.{bytes_length}
use Rattle.numbers.specs.Choice.{first}
use Rattle.dictionary.specs.Names.{configured}
use Rattle.records.specs.Layout.{Listed, listed, records, image_of, extent}
use Rattle.records.proofs.SizeLaws.{listed_extent, image_length}
use Rattle.records.specs.declared.types.Refusal.TheVariants.{NoRoom}
use Rattle.image.specs.declared.writing.types.Front.{Front}
use Rattle.image.specs.Placing.{Room, Placed}
use Rattle.image.specs.Written.{image_size, Written}
use Rattle.image.proofs.writing.PlacingLaws.{put_behind}
use Rattle.std.specs.Prelude.{Ok, Err}

many : 611 ≡ configured
unfolding configured
many = refl

-- behind the count, before the first record
abbrev pub start : Front
start = record { slot = 0; place = 4 }

module _ (words buffer : List ℕ) where
  pub no_room : length buffer < 5207 → Written words buffer buffer (Err NoRoom)
  unfolding image_size first
  no_room h = record { answered = rw (lt-ltb (length buffer) 5207 h); bytes = rw (lt-ltb (length buffer) 5207 h) }

  module _ {es : List Listed} {image : List ℕ} (all : es ≡ listed) (room : 5207 ≤ length buffer) (count : image ≡ sets buffer 0 (bytes 4 611)) where
    pub room_behind : Room es start image
    room_behind =
        let long = ap length count ∙ length-sets buffer 0 (bytes 4 611) in
        record { counted = omega arith; fits = omega (arith, ap extent all, listed_extent) }

    whole : {image' : List ℕ} {to : Front} → Placed es words start image image' to → image' ≡ image_of words ++ drop 5207 buffer
    unfolding image_of
    whole p =
        let long = image_length words in
        put_behind (bytes 4 configured) (records listed words) buffer 0 (count ∙ ap (λ (n : ℕ). sets buffer 0 (bytes 4 n)) many) (p.stored ∙ ap (λ (l : List Listed). sets image 4 (records l words)) all) (omega (arith, bytes_length 4 configured))
        ∙ sets-eq (image_of words) buffer 0 (omega arith)
        ∙ rw long

    pub image_written : {image' : List ℕ} {to : Front} → Placed es words start image image' to → Written words buffer image' (Ok tt)
    unfolding image_size first
    image_written p = record { answered = rw (le-ltb (length buffer) 5207 room); bytes = rw (le-ltb (length buffer) 5207 room) (whole p) }
