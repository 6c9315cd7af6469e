-- Records copied one after the other.
-- Assumes nothing.
use mathlib.Core.Path.{◌≡◌, refl, sym, ap, ◌∙◌}
use mathlib.Core.List.{List, [], ◌∷◌, ◌++◌, flat_map}
use Prim.Native.Nat.{ℕ, zero, suc, ◌+◌, ◌-◌, ◌<◌, ◌≤◌}
use native.Mathlib.Omega.{arith}
use lib.ListN.{length, get_or, set, take, drop, length-append, length-drop, drop_of_length-le}
use lib.Seq.{sets, set-set, drop-cons, drop-drop, take-nil, take-add, take_at, length-take-le, length-sets}
use Rattle.octets.specs.Little.{bytes}
use Rattle.octets.proofs.little.ByteLaws.{bytes_length}
use Rattle.octets.proofs.little.Parts.{placed, part, sets_append}
use Rattle.records.specs.Walk.{size_in}
use Rattle.lists.specs.Noting.{Stands, record_from}
use Rattle.lists.proofs.changes.ComparingLaws.{first_tells}
use Rattle.lists.proofs.changes.NotingLaws.{set_before}

-- ---- one record more

-- what is left to write, written from here on, is the whole; and it has room
pub record Left (wanted places list₀ list : List ℕ) (at k : ℕ) : Type 0 where
  pub whole : sets list at (flat_map (record_from wanted) (drop k places)) ≡ sets list₀ 4 (flat_map (record_from wanted) places)
  pub long : length list ≡ length list₀
  pub room : at + length (flat_map (record_from wanted) (drop k places)) ≤ length list

module _ (wanted places list₀ : List ℕ) {list : List ℕ} (e : list ≡ sets list₀ 0 (bytes 4 (length places))) where
  pub counted : 4 + length (flat_map (record_from wanted) places) ≤ length list₀ → Left wanted places list list 4 0
  counted h =
      let long = ap length e ∙ length-sets list₀ 0 (bytes 4 (length places)) in
      record { whole = refl; long = refl; room = omega arith }

  -- the records behind the count
  pub behind_count : sets list 4 (flat_map (record_from wanted) places) ≡ sets list₀ 0 (bytes 4 (length places) ++ flat_map (record_from wanted) places)
  behind_count =
      sym (sets_append (bytes 4 (length places)) (flat_map (record_from wanted) places) list₀ 0 ∙ rw (bytes_length 4 (length places), ← e))

module _ (wanted places list₀ list : List ℕ) (at k : ℕ) (l : Left wanted places list₀ list at k) where
  module _ (h : k < length places) where
    split : flat_map (record_from wanted) (drop k places) ≡ record_from wanted (get_or places k 0) ++ flat_map (record_from wanted) (drop (k + 1) places)
    unfolding flat_map
    split =
        let one : suc k ≡ k + 1 = omega arith in
        ap (flat_map (record_from wanted)) (drop-cons places k 0 h) ∙ ap (λ (n : ℕ). record_from wanted (get_or places k 0) ++ flat_map (record_from wanted) (drop n places)) one

    both : length (flat_map (record_from wanted) (drop k places)) ≡ length (record_from wanted (get_or places k 0)) + length (flat_map (record_from wanted) (drop (k + 1) places))
    both = ap length split ∙ length-append (record_from wanted (get_or places k 0)) (flat_map (record_from wanted) (drop (k + 1) places))

    pub room_here : at + length (record_from wanted (get_or places k 0)) ≤ length list
    room_here = let room = l.room in let sum = both in omega arith

    pub onward : {list' : List ℕ} {at' : ℕ} → list' ≡ sets list at (record_from wanted (get_or places k 0)) → at' ≡ at + length (record_from wanted (get_or places k 0))
        → Left wanted places list₀ list' at' (k + 1)
    onward e q =
        let long = ap length e ∙ length-sets list at (record_from wanted (get_or places k 0)) in
        let room = l.room in
        let sum = both in
        record {
          whole =
              rw (e, q) (sym (sets_append (record_from wanted (get_or places k 0)) (flat_map (record_from wanted) (drop (k + 1) places)) list at))
              ∙ ap (sets list at) (sym split) ∙ l.whole;
          long = long ∙ l.long;
          room = omega (arith, q);
        }

  pub all_copied : length places ≤ k → list ≡ sets list₀ 4 (flat_map (record_from wanted) places)
  unfolding flat_map
  all_copied h = sym (ap (λ (p : List ℕ). sets list at (flat_map (record_from wanted) p)) (drop_of_length-le places h)) ∙ l.whole

-- ---- the record at a place, by its two ends

pub four_put : (list wanted : List ℕ) (at place : ℕ) → place + 4 ≤ length wanted
    → set (set (set (set list at (get_or wanted place 0)) (at + 1) (get_or wanted (place + 1) 0)) (at + 2) (get_or wanted (place + 2) 0)) (at + 3) (get_or wanted (place + 3) 0)
    ≡ sets list at (take 4 (drop place wanted))
unfolding placed
four_put list wanted at place h =
    let next : (n : ℕ) → n + 1 ≡ suc n = λ n. omega arith in
    let two : (n : ℕ) → n + 2 ≡ suc (suc n) = λ n. omega arith in
    let three : (n : ℕ) → n + 3 ≡ suc (suc (suc n)) = λ n. omega arith in
    rw (part wanted 4 place h, next at, next place, two at, two place, three at, three place)

pub eight_put : (list wanted : List ℕ) (at place : ℕ) → place + 8 ≤ length wanted → {list' list'' : List ℕ}
    → list' ≡ sets list at (take 4 (drop place wanted)) → list'' ≡ sets list' (at + 4) (take 4 (drop (place + 4) wanted))
    → list'' ≡ sets list at (take 8 (drop place wanted))
eight_put list wanted at place h p q =
    let room = length-drop place wanted in
    let four = length-take-le 4 (drop place wanted) (omega arith) in
    q ∙ rw (p, take-add 4 4 (drop place wanted), drop-drop 4 place wanted)
    (sym (sets_append (take 4 (drop place wanted)) (take 4 (drop (place + 4) wanted)) list at ∙ rw four))

-- what was written in part is written whole
again : (v m : List ℕ) (i n : ℕ) → sets (sets m i (take n v)) i v ≡ sets m i v
again [] m i n = ap (λ (l : List ℕ). sets m i l) (take-nil n)
again (a ∷ v) m i zero = refl
again (a ∷ v) m i (suc n) =
    ap (λ (l : List ℕ). sets l (suc i) v) (set_before (take n v) (set m i a) i (suc i) a (omega arith) ∙ ap (λ (l : List ℕ). sets l (suc i) (take n v)) (set-set m i a a))
    ∙ again v (set m i a) (suc i) n

take_front : (n m : ℕ) (xs : List ℕ) → n ≤ length xs → take n (take (n + m) xs) ≡ take n xs
take_front n m xs h = ap (take n) (take-add n m xs) ∙ take_at (take n xs) (take m (drop n xs)) n (length-take-le n xs h)

module _ (l xs : List ℕ) (at k : ℕ) (h : k ≤ 8) (room : 8 ≤ length xs) where
  both_ends : sets (sets l at (take 8 xs)) (at + k) (take 8 (drop k xs)) ≡ sets l at (take (k + 8) xs)
  both_ends =
      let sum : 8 ≡ k + (8 - k) = omega arith in
      let more : 8 - k + k ≡ 8 = omega arith in
      let front : take 8 xs ≡ take k xs ++ take (8 - k) (take 8 (drop k xs))
      = ap (λ (n : ℕ). take n xs) sum ∙ take-add k (8 - k) xs ∙ ap (λ (m : List ℕ). take k xs ++ m) (sym (ap (λ (n : ℕ). take (8 - k) (take n (drop k xs))) (sym more) ∙ take_front (8 - k) k (drop k xs) (omega (arith, length-drop k xs)))) in
      let long = length-take-le k xs (omega arith) in
      rw (front, sets_append (take k xs) (take (8 - k) (take 8 (drop k xs))) l at, long, again (take 8 (drop k xs)) (sets l at (take k xs)) (at + k) (8 - k), take-add k 8 xs)
      (sym (sets_append (take k xs) (take 8 (drop k xs)) l at ∙ rw long))

module _ (wanted : List ℕ) (place : ℕ) (s : Stands wanted place) where
  past : ℕ
  past = get_or wanted (place + 3) 0 - 1

  -- eight to eleven bytes, all of them in the image
  pub told : (get_or wanted (place + 3) 0 ≡ size_in (drop place wanted)) × (0 < size_in (drop place wanted)) × (size_in (drop place wanted) ≤ 4)
      × (place + 7 + size_in (drop place wanted) ≤ length wanted) × (length (record_from wanted place) ≡ 7 + size_in (drop place wanted))
  unfolding record_from
  told =
      let within = s.inside in
      let room = length-drop place wanted in
      (first_tells wanted place s, s.some, s.small, s.inside, length-take-le (7 + size_in (drop place wanted)) (drop place wanted) (omega arith))

  pub record_put : {k : ℕ} → k ≡ get_or wanted (place + 3) 0 - 1 → (list : List ℕ) (at : ℕ) {list' list'' : List ℕ}
      → list' ≡ sets list at (take 8 (drop place wanted)) → list'' ≡ sets list' (at + k) (take 8 (drop (place + k) wanted)) → list'' ≡ sets list at (record_from wanted place)
  unfolding record_from
  record_put {k} e list at p q =
      let t = told in
      let room = length-drop place wanted in
      let whole : k + 8 ≡ 7 + size_in (drop place wanted) = omega (arith, t.0, t.1) in
      q ∙ rw (p, ← drop-drop k place wanted) (both_ends list (drop place wanted) at k (omega (arith, t.0, t.2)) (omega (arith, t.1, t.3))) ∙ ap (λ (n : ℕ). sets list at (take n (drop place wanted))) whole
