-- The error list: a run of words is stored, and a flagging enters the list in front.
-- Assumes nothing.
use Prim.Native.Nat.{ℕ, zero, suc, ◌+◌, ◌*◌, ◌<◌, ◌≤◌, min}
use mathlib.Core.Bool.{Bool, true, false}
use mathlib.Core.List.{List, [], ◌∷◌, ◌++◌, append_assoc}
use mathlib.Core.Path.{◌≡◌, refl, sym, ap, ◌∙◌}
use native.Mathlib.Nat.{add-zero}
use native.Mathlib.Numerals.{add-one}
use native.Mathlib.Omega.{arith}
use borrow.Author.Tests.{ltb-true, ltb-false}
use lib.Dec.{ltb, lit≤}
use lib.ListN.{length, get_or, set, take, drop, length-take, length-drop}
use lib.Seq.{sets, sets-eq, length-sets, take-suc, take_all, take-take, take_at, drop_at, drop-set-lt, get_or-set_same, get_or-set_other, get_or-take, get_or-drop, length-take-le, ext_get_or}
use Rattle.numbers.specs.Choice.{first}
use Rattle.dictionary.specs.Names.{slot_of, words}
use Rattle.dictionary.proofs.naming.NameLaws.{counted}
use Rattle.unit.specs.Entry.{entry, publish}
use Rattle.unit.proofs.Slots.{error_slots}
use Rattle.input.specs.Errors.{error, eight, errors, entered, flagging, noted}

-- ---- a run of words

-- one more behind it
sets_more : (vs l : List ℕ) (at a : ℕ) → set (sets l at vs) (at + length vs) a ≡ sets l at (vs ++ a ∷ [])
sets_more [] l at a = ap (λ (n : ℕ). set l n a) (add-zero at)
sets_more (x ∷ vs) l at a = ap (λ (n : ℕ). set (sets (set l at x) (suc at) vs) n a) (omega arith) ∙ sets_more vs (set l at x) (suc at) a

-- a slot outside is as it was
pub sets_keeps : (vs l : List ℕ) (at slot : ℕ) → (at ≤ slot → slot < at + length vs → ⊥) → get_or (sets l at vs) slot 0 ≡ get_or l slot 0
sets_keeps [] l at slot out = refl
sets_keeps (x ∷ vs) l at slot out = sets_keeps vs (set l at x) (suc at) slot (λ a b. out (omega arith) (omega arith)) ∙ get_or-set_other l at slot x 0 (λ e. out (omega arith) (omega arith))

-- ---- the loop: of what is pushed into the list the first i words are stored

module _ (l : List ℕ) (at e i : ℕ) (h : at + i < length l) where
  inside : i < length (e ∷ drop at l)
  inside = let n = length-drop at l in omega arith

  so_many : length (take i (e ∷ drop at l)) ≡ i
  so_many = length-take-le i (e ∷ drop at l) (omega (arith, inside))

  pub pushed_on : set (sets l at (take i (e ∷ drop at l))) (at + i) (get_or (e ∷ drop at l) i 0) ≡ sets l at (take (i + 1) (e ∷ drop at l))
  pushed_on =
      rw (add-one i, take-suc (e ∷ drop at l) i 0 inside)
      (ap (λ (n : ℕ). set (sets l at (take i (e ∷ drop at l))) (at + n) (get_or (e ∷ drop at l) i 0)) (sym so_many) ∙ sets_more (take i (e ∷ drop at l)) l at _)

  pub not_yet : get_or (sets l at (take i (e ∷ drop at l))) (at + i) 0 ≡ get_or l (at + i) 0
  not_yet = sets_keeps (take i (e ∷ drop at l)) l at (at + i) (λ a b. omega (arith, so_many))

-- all eight, and one more kept
pub entered_by : (u w : List ℕ) (i k kept : ℕ) → i ≡ 8 → w ≡ sets u 653 (take i ((0xFF00 + 0x10000 * (k + 1)) ∷ drop 653 u)) → kept ≡ min (get_or w 623 0 + 1) 8
    → set w 623 kept ≡ entered u (k + 1)
unfolding entered error eight publish entry slot_of
entered_by u w i k kept n is m =
    let ws = (0xFF00 + 0x10000 * (k + 1)) ∷ take 7 (take 8 (drop 653 u)) in
    let all : w ≡ sets u 653 ws = is ∙ rw n (ap (λ (l : List ℕ). sets u 653 ((0xFF00 + 0x10000 * (k + 1)) ∷ l)) (sym (take-take 7 8 (drop 653 u) (lit≤ tt)))) in
    let same : get_or w 623 0 ≡ get_or u 623 0 = ap (λ (l : List ℕ). get_or l 623 0) all ∙ sets_keeps ws u 653 623 (λ a b. omega arith) in
    rw (m, same, all)

-- ---- the list

-- cut twice
cut_twice : (a b : ℕ) (l : List ℕ) → take a (take b l) ≡ take b (take a l)
cut_twice a b l = go (ltb a b) refl
  where
    go : (t : Bool) → ltb a b ≡ t → take a (take b l) ≡ take b (take a l)
    go true e = let h = ltb-true a b e in take-take a b l (omega arith) ∙ sym (take_all b (take a l) (omega (arith, length-take a l)))
    go false e = let h = ltb-false a b e in take_all a (take b l) (omega (arith, length-take b l)) ∙ sym (take-take b a l h)

module _ (unit : List ℕ) (long : words ≤ length unit) (n : ℕ) where
  full : length (error n ∷ take 7 (eight unit)) ≡ 8
  unfolding eight
  full = let d = length-drop (slot_of 0x1003 1) unit in simp (length-take) (omega (arith, error_slots, counted))

  in_eight : eight (entered unit n) ≡ error n ∷ take 7 (eight unit)
  unfolding eight entered publish
  in_eight =
      let at = slot_of 0x1003 1 in
      let ws = error n ∷ take 7 (take 8 (drop at unit)) in
      ap (take 8) (drop-set-lt at (sets unit at ws) (slot_of 0x1003 0) _ (omega (arith, error_slots))
      ∙ ap (drop at) (sets-eq ws unit at (omega (arith, full, error_slots, counted)) ∙ append_assoc (take at unit) ws (drop (at + length ws) unit))
      ∙ drop_at (take at unit) (ws ++ drop (at + length ws) unit) at (length-take-le at unit (omega (arith, error_slots, counted))))
      ∙ take_at ws (drop (at + length ws) unit) 8 full

  pub kept_then : entry (entered unit n) 0x1003 0 ≡ min (entry unit 0x1003 0 + 1) 8
  unfolding entry entered publish
  kept_then =
      let ws = error n ∷ take 7 (eight unit) in
      get_or-set_same (sets unit (slot_of 0x1003 1) ws) (slot_of 0x1003 0) (min (get_or unit (slot_of 0x1003 0) 0 + 1) 8) 0 (omega (arith, error_slots, counted, length-sets unit (slot_of 0x1003 1) ws))

  -- the flagging stands in front of what was kept before, cut at eight
  pub errors_entered : errors (entered unit n) ≡ take 8 (error n ∷ errors unit)
  unfolding errors
  errors_entered = rw (in_eight, kept_then) (front (entry unit 0x1003 0))
    where
      front : (kept : ℕ) → take (min (kept + 1) 8) (error n ∷ take 7 (eight unit)) ≡ error n ∷ take 7 (take kept (eight unit))
      front kept = go (ltb kept 7) refl
        where
          go : (t : Bool) → ltb kept 7 ≡ t → take (min (kept + 1) 8) (error n ∷ take 7 (eight unit)) ≡ error n ∷ take 7 (take kept (eight unit))
          go true e =
              let h = ltb-true kept 7 e in
              let m : min (kept + 1) 8 ≡ suc kept = omega arith in
              rw m (ap (λ (l : List ℕ). error n ∷ l) (cut_twice kept 7 (eight unit)))
          go false e =
              let h = ltb-false kept 7 e in
              let m : min (kept + 1) 8 ≡ 8 = omega arith in
              rw m (ap (λ (l : List ℕ). error n ∷ l) (take-take 7 7 (eight unit) (omega arith) ∙ sym (take-take 7 kept (eight unit) h)))

-- ---- what makes it up

-- a word of the list: the number kept, or one of the eight
pub data OfList : ℕ → Type 0 where
  number : OfList (slot_of 0x1003 0)
  one : {slot : ℕ} → slot_of 0x1003 1 ≤ slot → slot < slot_of 0x1003 1 + 8 → OfList slot

pub same_errors : (u v : List ℕ) → length v ≡ length u → ((slot : ℕ) → OfList slot → get_or v slot 0 ≡ get_or u slot 0) → errors v ≡ errors u
unfolding errors eight entry
same_errors u v size same =
    let at = slot_of 0x1003 1 in
    let long : length (drop at v) ≡ length (drop at u) = omega (arith, length-drop at v, length-drop at u) in
    rw (same (slot_of 0x1003 0) number) (ap (take (get_or u (slot_of 0x1003 0) 0)) (ext_get_or 0 (take 8 (drop at v)) (take 8 (drop at u))
    (omega (arith, length-take 8 (drop at v), length-take 8 (drop at u)))
    (λ i h. let l : i < 8 = omega (arith, length-take 8 (drop at v)) in
    get_or-take 8 (drop at v) i 0 l ∙ get_or-drop at v i 0 ∙ same (at + i) (one (omega arith) (omega arith)) ∙ sym (get_or-take 8 (drop at u) i 0 l ∙ get_or-drop at u i 0))))

pub errors_few : (unit : List ℕ) → length (errors unit) ≤ 8
unfolding errors eight
errors_few unit =
    let l = drop (slot_of 0x1003 1) unit in
    omega (arith, length-take (entry unit 0x1003 0) (take 8 l), length-take 8 l)

-- a flagging in front, or nothing
pub errors_noted : (unit : List ℕ) → words ≤ length unit → (n : ℕ) (was is : Bool) → errors (noted unit n was is) ≡ take 8 (first (flagging was is) (error n ∷ []) [] ++ errors unit)
unfolding noted first
errors_noted unit long n was is = go (flagging was is)
  where
    go : (b : Bool) → errors (first b (entered unit n) unit) ≡ take 8 (first b (error n ∷ []) [] ++ errors unit)
    go true = errors_entered unit long n
    go false = sym (take_all 8 (errors unit) (errors_few unit))

-- ---- the number kept

pub noted_few : (unit : List ℕ) → words ≤ length unit → (n : ℕ) (was is : Bool) → entry unit 0x1003 0 ≤ 8 → entry (noted unit n was is) 0x1003 0 ≤ 8
unfolding noted first
noted_few unit long n was is few = go (flagging was is)
  where
    go : (b : Bool) → entry (first b (entered unit n) unit) 0x1003 0 ≤ 8
    go true = omega (arith, kept_then unit long n)
    go false = few

pub kept_told : (unit : List ℕ) → words ≤ length unit → entry unit 0x1003 0 ≤ 8 → entry unit 0x1003 0 ≡ length (errors unit)
unfolding errors eight
kept_told unit long few =
    let l = drop (slot_of 0x1003 1) unit in
    omega (arith, length-take (entry unit 0x1003 0) (take 8 l), length-take 8 l, length-drop (slot_of 0x1003 1) unit, error_slots, counted)

-- what is cut off once does not come back
pub cut_on : (a l : List ℕ) (m n : ℕ) → m ≤ n → take m (a ++ take n l) ≡ take m (a ++ l)
cut_on [] l m n h = take-take m n l h
cut_on (x ∷ a) l zero n h = refl
cut_on (x ∷ a) l (suc m) n h = ap (λ (t : List ℕ). x ∷ t) (cut_on a l m n (omega arith))
