-- What is taken is right in every part, and what is right is taken.
-- Assumes nothing.
use mathlib.Core.Path.{◌≡◌, refl, sym, ap, ◌∙◌}
use mathlib.Core.Bool.{Bool, true, false, not}
use mathlib.Core.List.{List, [], ◌∷◌, ◌++◌}
use Prim.Native.Nat.{ℕ, ◌+◌, ◌≤◌}
use native.Mathlib.Omega.{arith}
use lib.Dec.{eqb, ltb}
use lib.ListN.{length, take, drop}
use lib.Seq.{drop-drop}
use borrow.Author.Tests.{ltb-false, le-ltb, eqb-true, eq-eqb}
use Rattle.octets.specs.Little.{little}
use Rattle.numbers.specs.Choice.{first}
use Rattle.dictionary.specs.Names.{configured}
use Rattle.records.specs.Layout.{Listed, size, listed, extent}
use Rattle.records.specs.Walk.{index_in, sub_in, size_in, data_in, fits, valued, sized, decoded, behind, and_then, walked, taken_in}
use Rattle.records.specs.declared.types.Refusal.{Refusal}
use Rattle.records.specs.declared.types.Refusal.TheVariants.{EndedEarly, WrongCount, NotNext, WrongSize, OutOfRange}
use Rattle.records.proofs.WalkLaws.{not_both, then_taken}
use Rattle.std.specs.Prelude.{Result, Ok, Err}

-- ---- one record

pub record Right (e : Listed) (rest : List ℕ) : Type 0 where
  pub room : 7 + size e ≤ length rest
  pub index : index_in rest ≡ e.index
  pub sub : sub_in rest ≡ e.sub
  pub sized : size_in rest ≡ size e
  pub fit : fits e (data_in (size e) rest) ≡ true

module _ (e : Listed) (rest : List ℕ) where
  pub right : {n : ℕ} → decoded e rest ≡ Ok n → Right e rest
  unfolding decoded sized valued first
  right {n} t =
      go (ltb (length rest) 7) (eqb (index_in rest) e.index) refl (eqb (sub_in rest) e.sub) refl (eqb (size_in rest) (size e)) refl
      (ltb (length rest) (7 + size e)) refl (fits e (data_in (size e) rest)) refl t
    where
      go : (short : Bool) (i : Bool) → eqb (index_in rest) e.index ≡ i → (s : Bool) → eqb (sub_in rest) e.sub ≡ s → (z : Bool) → eqb (size_in rest) (size e) ≡ z
          → (cut : Bool) → ltb (length rest) (7 + size e) ≡ cut → (f : Bool) → fits e (data_in (size e) rest) ≡ f
          → first short (Err EndedEarly) (first (not i) (Err NotNext) (first (not s) (Err NotNext) (first (not z) (Err WrongSize)
          (first cut (Err EndedEarly) (first (not f) (Err OutOfRange) (Ok (7 + size e))))))) ≡ Ok n
          → Right e rest
      go true i p s q z r cut k f l t = absurd (not_both t)
      go false false p s q z r cut k f l t = absurd (not_both t)
      go false true p false q z r cut k f l t = absurd (not_both t)
      go false true p true q false r cut k f l t = absurd (not_both t)
      go false true p true q true r true k f l t = absurd (not_both t)
      go false true p true q true r false k false l t = absurd (not_both t)
      go false true p true q true r false k true l t =
          record {
            room = ltb-false (length rest) (7 + size e) k;
            index = eqb-true (index_in rest) e.index p;
            sub = eqb-true (sub_in rest) e.sub q;
            sized = eqb-true (size_in rest) (size e) r;
            fit = l;
          }

  pub taken : Right e rest → decoded e rest ≡ Ok (7 + size e)
  unfolding decoded sized valued first
  taken r =
      let h = r.room in
      rw (
        le-ltb (length rest) 7 (omega arith),
        eq-eqb (index_in rest) e.index r.index,
        eq-eqb (sub_in rest) e.sub r.sub,
        eq-eqb (size_in rest) (size e) r.sized,
        le-ltb (length rest) (7 + size e) h,
        r.fit,
      )

-- ---- one after the other

unfoldable pub AllRight : List Listed → List ℕ → Type 0
AllRight [] rest = Unit
AllRight (e ∷ es) rest = Right e rest × AllRight es (drop (7 + size e) rest)

pub all_right : (es : List Listed) (rest : List ℕ) {n : ℕ} → walked es rest ≡ Ok n → AllRight es rest
unfolding walked and_then behind AllRight
all_right [] rest t = tt
all_right (e ∷ es) rest {n} t = go (decoded e rest) refl (walked es (drop (7 + size e) rest)) (λ m q. all_right es (drop (7 + size e) rest) q) t
  where
    go : (d : Result ℕ Refusal) → decoded e rest ≡ d → (w : Result ℕ Refusal) → ((m : ℕ) → w ≡ Ok m → AllRight es (drop (7 + size e) rest)) → and_then d w ≡ Ok n
        → Right e rest × AllRight es (drop (7 + size e) rest)
    go (Err why) p w q t = absurd (not_both t)
    go (Ok m) p (Err why) q t = absurd (not_both t)
    go (Ok m) p (Ok k) q t = (right e rest p, q k refl)

pub all_taken : (es : List Listed) (rest : List ℕ) → AllRight es rest → walked es rest ≡ Ok (extent es)
unfolding walked and_then behind AllRight extent
all_taken [] rest a = refl
all_taken (e ∷ es) rest a = rw (taken e rest a.0, all_taken es (drop (7 + size e) rest) a.1)

-- ---- "the first record with a fault decides"

pub record Fault (es : List Listed) (rest : List ℕ) (why : Refusal) : Type 0 where
  pub before : List Listed
  pub at : Listed
  pub after : List Listed
  pub split : es ≡ before ++ (at ∷ after)
  pub rights : AllRight before rest
  pub refused : decoded at (drop (extent before) rest) ≡ Err why

pub first_fault : (es : List Listed) (rest : List ℕ) {why : Refusal} → walked es rest ≡ Err why → Fault es rest why
unfolding walked and_then behind AllRight extent
first_fault [] rest t = absurd (not_both (sym t))
first_fault (e ∷ es) rest {why} t = go (decoded e rest) refl (walked es (drop (7 + size e) rest)) (λ other q. first_fault es (drop (7 + size e) rest) q) t
  where
    go : (d : Result ℕ Refusal) → decoded e rest ≡ d → (w : Result ℕ Refusal) → ((other : Refusal) → w ≡ Err other → Fault es (drop (7 + size e) rest) other)
        → and_then d w ≡ Err why → Fault (e ∷ es) rest why
    go (Err other) p w q t = record { before = []; at = e; after = es; split = refl; rights = tt; refused = p ∙ t }
    go (Ok m) p (Ok k) q t = absurd (not_both (sym t))
    go (Ok m) p (Err other) q t =
        let later = q why t in
        record {
          before = e ∷ later.before;
          at = later.at;
          after = later.after;
          split = ap (λ (l : List Listed). e ∷ l) later.split;
          rights = (right e rest p, later.rights);
          refused = ap (decoded later.at) (sym (drop-drop (extent later.before) (7 + size e) rest)) ∙ later.refused;
        }

pub fault_first : (es : List Listed) (rest : List ℕ) {why : Refusal} → Fault es rest why → walked es rest ≡ Err why
unfolding walked and_then behind
fault_first es rest f =
    ap (λ (l : List Listed). walked l rest) f.split
    ∙ (then_taken f.before (f.at ∷ f.after) rest (all_taken f.before rest f.rights)).0
    ∙ rw f.refused

-- ---- the whole image

pub record Whole (image : List ℕ) : Type 0 where
  pub headed : 4 ≤ length image
  pub counted : little (take 4 image) ≡ configured
  pub rights : AllRight listed (drop 4 image)

module _ (image : List ℕ) where
  pub whole : {n : ℕ} → taken_in image ≡ Ok n → Whole image
  unfolding taken_in first behind
  whole {n} t =
      go (ltb (length image) 4) refl (eqb (little (take 4 image)) configured) refl (walked listed (drop 4 image)) (λ m q. all_right listed (drop 4 image) q) t
    where
      go : (short : Bool) → ltb (length image) 4 ≡ short → (c : Bool) → eqb (little (take 4 image)) configured ≡ c → (w : Result ℕ Refusal)
          → ((m : ℕ) → w ≡ Ok m → AllRight listed (drop 4 image))
          → first short (Err EndedEarly) (first (not c) (Err WrongCount) (behind 4 w)) ≡ Ok n → Whole image
      go true p c q w a t = absurd (not_both t)
      go false p false q w a t = absurd (not_both t)
      go false p true q (Err why) a t = absurd (not_both t)
      go false p true q (Ok m) a t =
          record { headed = ltb-false (length image) 4 p; counted = eqb-true (little (take 4 image)) configured q; rights = a m refl }

  pub whole_taken_in : Whole image → taken_in image ≡ Ok (4 + extent listed)
  unfolding taken_in first behind
  whole_taken_in w =
      rw (le-ltb (length image) 4 w.headed, eq-eqb (little (take 4 image)) configured w.counted, all_taken listed (drop 4 image) w.rights)
