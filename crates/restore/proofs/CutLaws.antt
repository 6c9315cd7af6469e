-- Reading looks at one byte behind the records and no further, so what is read of a file that is too long is refused as the whole file is.
-- Assumes nothing.
use mathlib.Core.Path.{◌≡◌, refl, sym, ap, ap₂, ◌∙◌}
use mathlib.Core.Bool.{Bool, true, false}
use mathlib.Core.List.{List, [], ◌∷◌, ◌++◌}
use Prim.Native.Nat.{ℕ, zero, suc, ◌+◌, ◌<◌, ◌≤◌}
use native.Mathlib.Omega.{arith}
use lib.Dec.{ltb}
use lib.ListN.{length, get_or, take, drop, length-append, length-drop, take-append-drop}
use lib.Seq.{take_all, length-take-le}
use borrow.Author.Tests.{lt-ltb, le-ltb, ltb-true, ltb-false}
use Rattle.numbers.specs.Choice.{first}
use Rattle.records.specs.Layout.{Listed, listed, size, extent}
use Rattle.records.specs.Walk.{index_in, sub_in, size_in, data_in, valued, sized, decoded, and_then, walked, taken_in}
use Rattle.records.proofs.SizeLaws.{listed_extent}
use Rattle.records.proofs.WalkLaws.{image_taken}
use Rattle.image.specs.Reading.{finished, reading}
use Rattle.std.specs.Prelude.{Result, Ok, Err}
use Rattle.records.specs.declared.types.Refusal.{Refusal}

-- ---- the front of a list, with anything behind it

drop_front : (n : ℕ) (a b : List ℕ) → n ≤ length a → drop n (a ++ b) ≡ drop n a ++ b
drop_front zero a b h = refl
drop_front (suc n) [] b h = absurd (omega arith)
drop_front (suc n) (x ∷ a) b h = drop_front n a b (omega arith)

take_front : (n : ℕ) (a b : List ℕ) → n ≤ length a → take n (a ++ b) ≡ take n a
take_front zero a b h = refl
take_front (suc n) [] b h = absurd (omega arith)
take_front (suc n) (x ∷ a) b h = ap (λ (l : List ℕ). x ∷ l) (take_front n a b (omega arith))

get_front : (n : ℕ) (a b : List ℕ) → n < length a → get_or (a ++ b) n 0 ≡ get_or a n 0
get_front n [] b h = absurd (omega arith)
get_front zero (x ∷ a) b h = refl
get_front (suc n) (x ∷ a) b h = get_front n a b (omega arith)

part_front : (n k : ℕ) (a b : List ℕ) → n + k ≤ length a → take k (drop n (a ++ b)) ≡ take k (drop n a)
part_front n k a b h =
    let room = length-drop n a in
    ap (take k) (drop_front n a b (omega arith)) ∙ take_front k (drop n a) b (omega arith)

short_front : (n : ℕ) (a b : List ℕ) → n ≤ length a → ltb (length (a ++ b)) n ≡ ltb (length a) n
short_front n a b h =
    let both = length-append a b in
    le-ltb (length (a ++ b)) n (omega arith) ∙ sym (le-ltb (length a) n h)

-- ---- records

decoded_front : (e : Listed) (a b : List ℕ) → 7 + size e ≤ length a → decoded e (a ++ b) ≡ decoded e a
unfolding decoded sized valued index_in sub_in size_in data_in
decoded_front e a b h =
    rw (
      short_front 7 a b (omega arith),
      take_front 2 a b (omega arith),
      get_front 2 a b (omega arith),
      part_front 3 4 a b (omega arith),
      short_front (7 + size e) a b h,
      part_front 7 (size e) a b h,
    )

walked_front : (es : List Listed) (a b : List ℕ) → extent es ≤ length a → walked es (a ++ b) ≡ walked es a
unfolding walked extent
walked_front [] a b h = refl
walked_front (e ∷ es) a b h =
    let room = length-drop (7 + size e) a in
    ap₂ and_then (decoded_front e a b (omega arith))
    (ap (walked es) (drop_front (7 + size e) a b (omega arith)) ∙ walked_front es (drop (7 + size e) a) b (omega arith))

taken_front : (a b : List ℕ) → 5207 ≤ length a → taken_in (a ++ b) ≡ taken_in a
unfolding taken_in
taken_front a b h =
    let room = length-drop 4 a in
    rw (
      short_front 4 a b (omega arith),
      take_front 4 a b (omega arith),
      drop_front 4 a b (omega arith),
      walked_front listed (drop 4 a) b (omega (arith, listed_extent)),
    )

-- ---- images

read_front : (a b : List ℕ) → 5207 < length a → reading (a ++ b) ≡ reading a
unfolding reading finished first
read_front a b h = ap (finished (a ++ b)) (taken_front a b (omega arith)) ∙ go (taken_in a) refl
  where
    go : (w : Result ℕ Refusal) → taken_in a ≡ w → finished (a ++ b) w ≡ finished a w
    go (Err why) t = refl
    go (Ok n) t =
        let all = image_taken a t in
        let both = length-append a b in
        rw (lt-ltb n (length (a ++ b)) (omega (arith, listed_extent)), lt-ltb n (length a) (omega (arith, listed_extent)))

pub read_cut : (image : List ℕ) → reading (take 5208 image) ≡ reading image
read_cut image = go (ltb 5208 (length image)) refl
  where
    go : (long : Bool) → ltb 5208 (length image) ≡ long → reading (take 5208 image) ≡ reading image
    go false t = ap reading (take_all 5208 image (ltb-false 5208 (length image) t))
    go true t =
        let more = ltb-true 5208 (length image) t in
        let full = length-take-le 5208 image (omega arith) in
        sym (read_front (take 5208 image) (drop 5208 image) (omega arith)) ∙ ap reading (take-append-drop 5208 image)
