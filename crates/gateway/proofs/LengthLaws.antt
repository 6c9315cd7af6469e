-- How long a list is: no longer than an image, whatever differs.
-- Assumes nothing.
use mathlib.Core.Path.{◌≡◌, refl}
use mathlib.Core.Bool.{true, and-eq-true_iff}
use mathlib.Core.List.{List, [], ◌∷◌, flat_map}
use Prim.Native.Nat.{ℕ, ◌+◌, ◌≤◌}
use native.Mathlib.Omega.{arith}
use lib.Dec.{ltb}
use lib.ListN.{length, length-append}
use borrow.Author.Tests.{ltb-true}
use Rattle.octets.specs.Little.{bytes}
use Rattle.octets.proofs.little.ByteLaws.{bytes_length}
use Rattle.numbers.specs.Choice.{every}
use Rattle.dictionary.specs.Names.{configured}
use Rattle.dictionary.specs.Rows.{width}
use Rattle.records.specs.Layout.{listed, size, entry, record_in}
use Rattle.image.specs.Reading.{reading, configuration_in}
use Rattle.sending.specs.Sending.{slots_from, stretch, total}
use Rattle.sending.proofs.Counting.{all_inside, total_within}
use Rattle.lists.specs.Changes.{changes, list_of}
use Rattle.lists.proofs.changes.StandingLaws.{record_length}
use Rattle.std.specs.Prelude.{Ok}

-- the bytes of a slot's record
unfoldable pub record_size : ℕ → ℕ
record_size slot = 7 + size (entry listed slot)

all_sizes : total record_size (stretch 0 configured) ≡ 5203
unfolding total record_size stretch slots_from configured entry listed size width
all_sizes = refl

records_long : (image : List ℕ) → reading image ≡ Ok tt → (ss : List ℕ) → every (λ s. ltb s configured) ss ≡ true → length (flat_map (record_in image) ss) ≡ total record_size ss
unfolding every flat_map total record_size configured
records_long image g [] e = refl
records_long image g (s ∷ ss) e =
    let both = (and-eq-true_iff (ltb s 611) (every (λ s. ltb s 611) ss)).0 e in
    let more = records_long image g ss both.1 in
    let one = record_length image g s (ltb-true s 611 both.0) in
    omega (arith, length-append (record_in image s) (flat_map (record_in image) ss))

pub list_short : (current wanted : List ℕ) → reading wanted ≡ Ok tt → length (list_of current wanted) ≤ 5207
unfolding list_of changes
list_short current wanted g =
    let count = bytes_length 4 (length (changes current wanted)) in
    let both = length-append (bytes 4 (length (changes current wanted))) (flat_map (record_in wanted) (changes current wanted)) in
    let long = records_long wanted g (changes current wanted) (all_inside (configuration_in current) (configuration_in wanted)) in
    omega (arith, all_sizes, total_within (configuration_in current) (configuration_in wanted) record_size)
