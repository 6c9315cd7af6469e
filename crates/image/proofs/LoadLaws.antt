-- Loading an accepted image, record by record.
-- Assumes nothing.
use mathlib.Core.Path.{◌≡◌, refl, sym, ap, subst, ◌∙◌}
use mathlib.Core.List.{List, [], ◌∷◌, ◌++◌}
use Prim.Native.Nat.{ℕ, zero, suc, ◌+◌, ◌-◌, ◌<◌, ◌≤◌}
use native.Mathlib.Nat.{le_of_suc-le-suc, not-suc-le-zero}
use native.Mathlib.Omega.{arith}
use lib.ListN.{length, get_or, set, take, drop, length-drop}
use lib.Seq.{drop-cons, take_all}
use Rattle.octets.specs.Little.{little}
use Rattle.octets.proofs.little.Parts.{placed, part}
use Rattle.dictionary.specs.Names.{configured}
use Rattle.records.specs.Layout.{Listed, size, listed, nothing}
use Rattle.records.specs.Walk.{size_in, data_in, data_there, values}
use Rattle.records.proofs.RightLaws.{Right, AllRight}
use Rattle.roles.proofs.widths.WidthLaws.{at_most_four}
use Rattle.records.proofs.TakeLaws.{is_there}
use Rattle.records.proofs.WalkLaws.{onward}
use Rattle.image.specs.Reading.{configuration_in}
use Rattle.image.proofs.reading.Acceptance.{Accepted}
use Rattle.image.proofs.reading.PlaceLaws.{counted}

-- ---- one store after the other

pub stored : (c l : List ℕ) (k : ℕ) {w : ℕ} → k < length c → k < length l → w ≡ get_or c k 0
    → set (take k c ++ drop k l) k w ≡ take (suc k) c ++ drop (suc k) l
stored [] l k h m e = absurd (not-suc-le-zero h)
stored (x ∷ c) [] k h m e = absurd (not-suc-le-zero m)
stored (x ∷ c) (y ∷ l) zero h m e = ap (λ (v : ℕ). v ∷ l) e
stored (x ∷ c) (y ∷ l) (suc k) h m e = ap (λ (r : List ℕ). x ∷ r) (stored c l k (le_of_suc-le-suc h) (le_of_suc-le-suc m) e)

pub values_length : (es : List Listed) (rest : List ℕ) → length (values es rest) ≡ length es
unfolding values
values_length [] rest = refl
values_length (e ∷ es) rest = ap suc (values_length es (drop (7 + size e) rest))

-- ---- what is so after some slots

pub record Half (image unit₀ unit rest : List ℕ) (slot : ℕ) : Type 0 where
  pub within : slot ≤ 611
  pub rights : AllRight (drop slot listed) rest
  pub words : unit ≡ take slot (configuration_in image) ++ drop slot unit₀
  pub left : values (drop slot listed) rest ≡ drop slot (configuration_in image)

pub begun : (image unit : List ℕ) → Accepted image → Half image unit unit (onward 4 image) 0
unfolding configuration_in
begun image unit a =
    let room = length-drop 4 image in
    let all = take_all (length image - 4) (drop 4 image) (omega arith) in
    record { within = omega arith; rights = subst (AllRight listed) (sym all) a.walk.rights; words = refl; left = ap (values listed) all }

module _ (image unit₀ unit rest : List ℕ) (slot : ℕ) (half : Half image unit₀ unit rest slot) (more : slot < 611) where
  here : Listed
  here = get_or listed slot nothing

  split : drop slot listed ≡ here ∷ drop (suc slot) listed
  unfolding here
  split = drop-cons listed slot nothing (omega (arith, counted))

  both : Right here rest × AllRight (drop (suc slot) listed) (drop (7 + size here) rest)
  unfolding AllRight
  both = subst (λ (es : List Listed). AllRight es rest) split half.rights

  room : 7 + size here ≤ length rest
  room = both.0.room

  pub headed : 7 ≤ length rest
  headed = let r = room in omega arith

  -- a size has one byte that is not 0
  first_byte : get_or rest 3 0 ≡ size here
  unfolding size_in little placed size
  first_byte =
      let r = room in
      let most = at_most_four here.range.kind in
      let four = sym (ap little (part rest 4 3 (omega arith))) ∙ both.0.sized in
      omega arith

  pub small : get_or rest 3 0 ≤ 4
  unfolding size
  small = let most = at_most_four here.range.kind in let b = first_byte in omega arith

  pub long : {n : ℕ} → n ≡ get_or rest 3 0 → 7 + n ≤ length rest
  long e = let r = room in let b = first_byte in omega arith

  heads : data_in (size here) rest ∷ values (drop (suc slot) listed) (drop (7 + size here) rest) ≡ get_or (configuration_in image) slot 0 ∷ drop (suc slot) (configuration_in image)
  unfolding values configuration_in
  heads =
      sym (ap (λ (es : List Listed). values es rest) split) ∙ half.left
      ∙ drop-cons (configuration_in image) slot 0 (omega (arith, counted, values_length listed (drop 4 image)))

  module _ {n w : ℕ} (e : n ≡ get_or rest 3 0) (d : w ≡ data_there n rest) where
    same : n ≡ size here
    same = e ∙ first_byte

    pub next : slot < length unit₀ → Half image unit₀ (set unit slot w) (onward (7 + n) rest) (slot + 1)
    unfolding configuration_in size
    next h =
        let step : slot + 1 ≡ suc slot = omega arith in
        let fits = length-drop (7 + n) rest in
        let all = take_all (length rest - (7 + n)) (drop (7 + n) rest) (omega arith) ∙ ap (λ (m : ℕ). drop (7 + m) rest) same in
        let word : w ≡ get_or (configuration_in image) slot 0
        = d ∙ is_there here.range.kind rest same (long e) ∙ ap (λ (m : ℕ). data_in m rest) same ∙ ap (λ (l : List ℕ). get_or l 0 0) heads in
        rw (step, all)
        (record {
          within = omega arith;
          rights = both.1;
          words =
              ap (λ (u : List ℕ). set u slot w) half.words
              ∙ stored (configuration_in image) unit₀ slot (omega (arith, counted, values_length listed (drop 4 image))) h word;
          left = ap (drop 1) heads;
        })

pub ended : (image unit₀ unit rest : List ℕ) (slot : ℕ) → Half image unit₀ unit rest slot → 611 ≤ slot → unit ≡ configuration_in image ++ drop configured unit₀
unfolding configuration_in configured
ended image unit₀ unit rest slot half h =
    let w = half.within in
    let done : slot ≡ 611 = omega arith in
    let many = values_length listed (drop 4 image) in
    half.words ∙ rw (done, take_all 611 (configuration_in image) (omega (arith, counted)))
