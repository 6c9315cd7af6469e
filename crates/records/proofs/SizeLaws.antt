-- How long records are, and an image: 5,207 bytes, whatever the words.
-- Assumes nothing.
use mathlib.Core.Path.{◌≡◌, refl, ◌∙◌}
use mathlib.Core.List.{List, [], ◌∷◌}
use Prim.Native.Nat.{ℕ, ◌+◌}
use native.Mathlib.Omega.{arith}
use lib.ListN.{length, length-append}
use Rattle.octets.specs.Little.{bytes}
use Rattle.octets.proofs.little.ByteLaws.{bytes_length}
use Rattle.dictionary.specs.Names.{configured}
use Rattle.dictionary.specs.Rows.{width}
use Rattle.records.specs.Layout.{Listed, listed, size, extent, record_of, records, image_of}

pub record_length : (e : Listed) (word : ℕ) → length (record_of e word) ≡ 7 + size e
unfolding record_of
record_length e word = simp (length-append, bytes_length) (omega arith)

pub records_length : (es : List Listed) (words : List ℕ) → length (records es words) ≡ extent es
unfolding records extent
records_length [] words = refl
records_length (e ∷ es) [] =
    length-append (record_of e 0) (records es []) ∙ (let more = records_length es [] in let one = record_length e 0 in omega arith)
records_length (e ∷ es) (w ∷ words) =
    length-append (record_of e w) (records es words) ∙ (let more = records_length es words in let one = record_length e w in omega arith)

-- by computing
pub listed_extent : extent listed ≡ 5203
unfolding extent listed size width
listed_extent = refl

pub image_length : (words : List ℕ) → length (image_of words) ≡ 5207
unfolding image_of
image_length words =
    omega (arith, length-append (bytes 4 configured) (records listed words), bytes_length 4 configured, records_length listed words, listed_extent)
