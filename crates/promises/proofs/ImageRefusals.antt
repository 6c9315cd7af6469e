-- The listed refusals of images are met, and C is told which.
-- Assumes nothing.
use Prim.Native.Nat.{ℕ, zero, suc, ◌+◌, ◌-◌, ◌*◌, ◌≤◌}
use mathlib.Core.Bool.{Bool, true, false, not, ◌&&◌, and-eq-true_iff}
use mathlib.Core.Path.{◌≡◌, refl, sym, ap, ◌∙◌}
use mathlib.Core.List.{List, [], ◌∷◌, ◌++◌}
use native.Mathlib.Omega.{arith}
use borrow.Author.Tests.{ltb-true, ltb-false, leb-true}
use lib.Dec.{eqb, ltb, leb}
use lib.IntN.{ℤ, pos, negsuc, neg_ℤ}
use lib.ListN.{length, take, drop}
use Rattle.octets.specs.Little.{little}
use Rattle.numbers.specs.Choice.{first, every}
use Rattle.numbers.proofs.Choices.{chosen}
use Rattle.dictionary.proofs.naming.NameLaws.{counted}
use Rattle.records.specs.Layout.{Listed, listed, size, extent}
use Rattle.records.specs.Walk.{number, outcome_number, index_in, sub_in, size_in, data_in, fits, valued, sized, decoded, behind, and_then, walked, taken_in}
use Rattle.records.specs.declared.types.Refusal.{Refusal}
use Rattle.records.specs.declared.types.Refusal.TheVariants.{EndedEarly, WrongCount, NotNext, WrongSize, OutOfRange, OutOfOrder, LeftOver, NoRoom}
use Rattle.records.proofs.RightLaws.{all_right, all_taken}
use Rattle.records.proofs.SizeLaws.{listed_extent}
use Rattle.image.specs.Reading.{reading, finished, in_order, configuration_in}
use Rattle.image.specs.Told as image
use Rattle.image.specs.Written.{image_size}
use Rattle.lists.specs.Changes.{list_of}
use Rattle.lists.specs.Listing.{made}
use Rattle.firmware.proofs.Once.{replied_once, saved_once, loaded_once}
use Rattle.gateway.specs.Restored as restored
use Rattle.promises.specs.FrameRefusals.{first_match}
use Rattle.promises.specs.ImageRefusals.{record_rows, records_rows, image_rows, met, ImagesMeetTheirs, OneToSeven, ToldToC, SameForC, OneForC, Tells, NumberTellsWhich}
use Rattle.std.specs.Prelude.{Result, Ok, Err, ⊤}
use Rattle.lists.specs.declared.types.Unmade.TheVariants.{NoRoom}

-- ---- the records of an image

-- what a walk answers, by the paper's number, with what comes behind it
said : Result ℕ Refusal → ℕ → ℕ
said (Ok n) next = next
said (Err why) next = number why

-- a row is met in the records, or else behind them
walk_rows : (es : List Listed) (rest : List ℕ) (more : List (Bool × ℕ)) → first_match (records_rows es rest ++ more) 0 ≡ said (walked es rest) (first_match more 0)
unfolding first_match first record_rows records_rows walked decoded sized valued and_then behind number said
walk_rows [] rest more = refl
walk_rows (e ∷ es) rest more =
    go (ltb (length rest) 7) (eqb (index_in rest) e.index) (eqb (sub_in rest) e.sub) (eqb (size_in rest) (size e)) (ltb (length rest) (7 + size e))
    (fits e (data_in (size e) rest)) (walked es (drop (7 + size e) rest)) (walk_rows es (drop (7 + size e) rest) more)
  where
    go : (short index sub sized cut fit : Bool) (w : Result ℕ Refusal) → first_match (records_rows es (drop (7 + size e) rest) ++ more) 0 ≡ said w (first_match more 0)
        → first short 1 (first (not (index && sub)) 3 (first (not sized) 4 (first cut 1 (first (not fit) 5 (first_match (records_rows es (drop (7 + size e) rest) ++ more) 0)))))
        ≡ said
        (and_then (first short (Err EndedEarly) (first (not index) (Err NotNext) (first (not sub) (Err NotNext) (first (not sized) (Err WrongSize)
        (first cut (Err EndedEarly) (first (not fit) (Err OutOfRange) (Ok (7 + size e)))))))) w)
        (first_match more 0)
    go true index sub sized cut fit w h = refl
    go false false sub sized cut fit w h = refl
    go false true false sized cut fit w h = refl
    go false true true false cut fit w h = refl
    go false true true true true fit w h = refl
    go false true true true false false w h = refl
    go false true true true false true (Ok n) h = h
    go false true true true false true (Err why) h = h

-- ---- an image

-- behind the records
ends : (more ordered : Bool) → outcome_number (first more (Err LeftOver) (first (not ordered) (Err OutOfOrder) (Ok tt))) ≡ first more 7 (first (not ordered) 6 0)
unfolding first outcome_number number
ends true ordered = refl
ends false true = refl
ends false false = refl

-- what is taken is all of the records
all_of : (rest : List ℕ) {n : ℕ} → walked listed rest ≡ Ok n → 4 + n ≡ 5207
all_of rest {n} t =
    let whole = all_taken listed rest (all_right listed rest t) in
    let same : n ≡ extent listed = cc in
    omega (arith, listed_extent)

pub images_meet_theirs : ImagesMeetTheirs
unfolding met image_rows first_match first reading finished taken_in behind outcome_number number said
images_meet_theirs bytes =
    rw counted.0
    (go (ltb (length bytes) 4) (eqb (little (take 4 bytes)) 611) (walked listed (drop 4 bytes)) refl (walk_rows listed (drop 4 bytes) _))
  where
    go : (short count : Bool) (w : Result ℕ Refusal) → walked listed (drop 4 bytes) ≡ w
        → {met : ℕ} → met ≡ said w (first (ltb 5207 (length bytes)) 7 (first (not (in_order (configuration_in bytes))) 6 0))
        → outcome_number (finished bytes (first short (Err EndedEarly) (first (not count) (Err WrongCount) (behind 4 w)))) ≡ first short 1 (first (not count) 2 met)
    go true count w t e = refl
    go false false w t e = refl
    go false true (Err why) t e = sym e
    go false true (Ok n) t e = rw (all_of (drop 4 bytes) t) (ends (ltb 5207 (length bytes)) (in_order (configuration_in bytes)) ∙ sym e)

-- ---- no row of an image has 8

low : Bool × ℕ → Bool
low row = leb row.1 7

low_match : (rows : List (Bool × ℕ)) → every low rows ≡ true → first_match rows 0 ≤ 7
unfolding first_match every low
low_match [] h = omega arith
low_match (row ∷ rows) h =
    let both = (and-eq-true_iff (leb row.1 7) (every low rows)).0 h in
    chosen (λ n. n ≤ 7) row.0 row.1 (first_match rows 0) (λ e. leb-true row.1 7 both.0) (λ e. low_match rows both.1)

low_rows : (es : List Listed) (rest : List ℕ) (more : List (Bool × ℕ)) → every low more ≡ true → every low (records_rows es rest ++ more) ≡ true
unfolding records_rows record_rows every low
low_rows [] rest more h = h
low_rows (e ∷ es) rest more h = low_rows es (drop (7 + size e) rest) more h

pub one_to_seven : OneToSeven
unfolding met image_rows every low
one_to_seven bytes = low_match (image_rows bytes) (low_rows listed (drop 4 bytes) _ refl)

-- ---- what C is told

pub told_to_C : ToldToC
unfolding image.told first image_size outcome_number number
told_to_C = (
  λ bytes r e. e ∙ below_zero (images_meet_theirs bytes),
  λ unit bytes unit' r s. s.answered ∙ below_zero (images_meet_theirs bytes),
  λ unit bytes bytes' r s. s.answered ∙ room (ltb (length bytes) 5207),
)
  where
    below_zero : {m n : ℕ} → m ≡ n → neg_ℤ (pos m) ≡ neg_ℤ (pos n)
    below_zero e = ap (λ (n : ℕ). neg_ℤ (pos n)) e

    room : (short : Bool) → image.told (first short (Err NoRoom) (Ok tt)) ≡ neg_ℤ (pos (first short 8 0))
    room true = refl
    room false = refl

pub same_for_C : SameForC
same_for_C = (
  λ unit frame reply unit' reply' r s. record { answered = refl; state = s.state; bytes = s.bytes },
  λ unit bytes unit' r s. record { answered = refl; state = s.state },
  λ unit bytes bytes' r s. record { answered = refl; bytes = s.bytes },
)

pub one_for_C : OneForC
one_for_C = (λ unit frame reply u₁ b₁ u₂ b₂ r s p q. replied_once p q, λ unit bytes u₁ u₂ r s p q. loaded_once p q, λ unit bytes b₁ b₂ r s p q. saved_once p q)

-- a number of either sign, as one that omega reads: twice itself, or one less where it is below zero
code : ℤ → ℕ
code (pos n) = 2 * n
code (negsuc n) = 2 * n + 1

same : (r s : ℤ) → code r ≡ code s → r ≡ s
unfolding code
same (pos m) (pos n) e = ap pos (omega arith)
same (pos m) (negsuc n) e = absurd (omega arith)
same (negsuc m) (pos n) e = absurd (omega arith)
same (negsuc m) (negsuc n) e = ap negsuc (omega arith)

coded : (n : ℕ) → code (neg_ℤ (pos n)) ≡ 2 * n - 1
unfolding code
coded zero = refl
coded (suc n) = omega arith

module _ (r : ℤ) (n : ℕ) where
  below_in : r ≡ neg_ℤ (pos n) → code r ≡ 2 * n - 1
  below_in e = ap code e ∙ coded n

  below_out : code r ≡ 2 * n - 1 → r ≡ neg_ℤ (pos n)
  below_out e = same r (neg_ℤ (pos n)) (e ∙ sym (coded n))

  above_in : r ≡ pos n → code r ≡ 2 * n
  unfolding code
  above_in e = ap code e

  above_out : code r ≡ 2 * n → r ≡ pos n
  unfolding code
  above_out e = same r (pos n) e

ruleset signs = (arith, below_in, below_out, above_in, above_out)

-- every refusal has a number, from 1 on
some : (why : Refusal) → 1 ≤ number why
unfolding number
some EndedEarly = omega arith
some WrongCount = omega arith
some NotNext = omega arith
some WrongSize = omega arith
some OutOfRange = omega arith
some OutOfOrder = omega arith
some LeftOver = omega arith
some NoRoom = omega arith

module _ (current wanted list room : ℕ) {r : ℤ} (low-current : current ≤ 7) (low-wanted : wanted ≤ 7) where
  -- room for the list, or none
  tells_size : current ≡ 0 → wanted ≡ 0 → (full : Bool) → ltb room list ≡ full → r ≡ restored.told (first full (Err NoRoom) (Ok list)) → Tells current wanted list room r
  unfolding first restored.told
  tells_size c w true t e = let h = ltb-true room list t in omega (signs, below_in r 8 e)
  tells_size c w false t e = let h = ltb-false room list t in omega signs

  tells : (x y : Result ⊤ Refusal) → outcome_number x ≡ current → outcome_number y ≡ wanted → r ≡ restored.told (made x y list room) → Tells current wanted list room r
  unfolding made outcome_number restored.told
  tells (Err why) y c w e = let h = some why in omega signs
  tells (Ok _) (Err why) c w e = let h = some why in omega (signs, below_in r (10 + number why) e)
  tells (Ok _) (Ok _) c w e = tells_size (sym c) (sym w) (ltb room list) refl e

pub number_tells_which : NumberTellsWhich
unfolding restored.outcome
number_tells_which current wanted buffer buffer' r s =
    tells (met current) (met wanted) (length (list_of current wanted)) (length buffer) (one_to_seven current) (one_to_seven wanted)
    (reading current) (reading wanted) (images_meet_theirs current) (images_meet_theirs wanted) s.answered
