-- What the code's short account of an index gives, and where a name that is found stands.
-- Assumes nothing.
use mathlib.Core.Path.{◌≡◌, refl, sym, ap, ◌∙◌, subst}
use mathlib.Core.Bool.{Bool, true, false, ◌&&◌, and-eq-true_iff, and-false}
use mathlib.Core.List.{List, [], ◌∷◌}
use Prim.Native.Nat.{ℕ, ◌+◌, ◌-◌, ◌<◌, ◌≤◌, max}
use native.Mathlib.Nat.{add-zero}
use native.Mathlib.Omega.{arith}
use lib.Dec.{eqb, ltb, leb, lit<}
use borrow.Author.Tests.{ltb-true, leb-true, eqb-true, ne_eqb, le-leb, lt-leb}
use Rattle.numbers.specs.Choice.{first}
use Rattle.dictionary.specs.Names.{Stretch, stretches, with_index, largest, at_sub, named, find, slot_of, slot_found, configured, received_to, writable, words, configured_bytes}
use Rattle.dictionary.specs.Objects.{meant, Rows}
use Rattle.std.specs.Prelude.{Result, Ok, Err}
use Rattle.dictionary.specs.declared.types.Named.{Named}
use Rattle.dictionary.specs.declared.types.Named.TheVariants.{Count, At}
use Rattle.dictionary.specs.declared.types.Missing.{Missing}
use Rattle.dictionary.specs.declared.types.Missing.TheVariants.{Index, Sub}
use Rattle.dictionary.specs.declared.objects.Object.{Object}
use Rattle.dictionary.specs.declared.objects.Object.TheVariants.{Unknown, Var, Array, Constants, Errors}

-- ---- a test that each stretch passes, those with one index among them

unfoldable pub every : (Stretch → Bool) → List Stretch → Bool
every p [] = true
every p (s ∷ ss) = p s && every p ss

-- those with an index pass the test and have the index
every_with_index : (p : Stretch → Bool) (index : ℕ) (ss : List Stretch) → every p ss ≡ true → every (λ s. p s && eqb s.index index) (with_index index ss) ≡ true
unfolding every with_index first
every_with_index p index [] e = refl
every_with_index p index (s ∷ ss) e = go (eqb s.index index) refl ((and-eq-true_iff (p s) (every p ss)).0 e) (every_with_index p index ss ((and-eq-true_iff (p s) (every p ss)).0 e).1)
  where
    q : Stretch → Bool
    q = λ t. p t && eqb t.index index

    go : (b : Bool) → eqb s.index index ≡ b → (p s ≡ true) × (every p ss ≡ true) → every q (with_index index ss) ≡ true → every q (first b (s ∷ with_index index ss) (with_index index ss)) ≡ true
    go true i h ih = (and-eq-true_iff (q s) (every q (with_index index ss))).1 ((and-eq-true_iff (p s) (eqb s.index index)).1 (h.0, i), ih)
    go false i h ih = ih

-- what an index's stretches are called does not matter to `named`
pub unnamed : (o : Object) (i j sub : ℕ) → named (meant o i) sub ≡ named (meant o j) sub
unfolding named meant largest at_sub
unnamed Unknown i j sub = refl
unnamed (Var slot) i j sub = refl
unnamed (Array slot last) i j sub = refl
unnamed Constants i j sub = refl
unnamed Errors i j sub = refl

-- so the code's short account of an index, r, gives what the index names
pub by_object : (r o : Object) (index sub : ℕ) → r ≡ o → Rows r index → named (meant o 0) sub ≡ find index sub
unfolding find
by_object r o index sub q e =
    unnamed o 0 index sub ∙ ap (λ (ss : List Stretch). named ss sub) (ap (λ (x : Object). meant x index) (sym q) ∙ e.are)

-- an array's subs count from 1, and its slots are below 1000
array_sized : Stretch → Bool
array_sized s = (ltb s.slot 1000) && (leb s.from s.to)

arrays_sized : every array_sized stretches ≡ true
unfolding every array_sized stretches
arrays_sized = refl

pub array_of : (r : Object) (slot last index : ℕ) → r ≡ Array slot last → Rows r index → (slot < 1000) × (0 < last)
unfolding meant every array_sized
array_of r slot last index q e =
    let q' : Stretch → Bool = λ s. array_sized s && eqb s.index index in
    let passed : every q' (meant (Array slot last) index) ≡ true = subst (λ (ss : List Stretch). every q' ss ≡ true) (sym (ap (λ (x : Object). meant x index) (sym q) ∙ e.are)) (every_with_index array_sized index stretches arrays_sized) in
    let sized = ((and-eq-true_iff (ltb slot 1000 && leb 1 last) (eqb index index)).0 ((and-eq-true_iff ((ltb slot 1000 && leb 1 last) && eqb index index) true).0 passed).0).0 in
    let two = (and-eq-true_iff (ltb slot 1000) (leb 1 last)).0 sized in
    (ltb-true slot 1000 two.0, leb-true 1 last two.1)

-- ---- what the subs of a VAR, of an ARRAY, of the constants and of the errors name

pub var_value : (slot sub : ℕ) → sub ≡ 0 → Ok (At slot) ≡ named (meant (Var slot) 0) sub
unfolding named meant largest at_sub first
var_value slot sub e = rw e (ap (λ (n : ℕ). Ok (At n)) (sym (add-zero slot)))

pub var_none : (slot sub : ℕ) → (sub ≡ 0 → ⊥) → Err Sub ≡ named (meant (Var slot) 0) sub
unfolding named meant largest at_sub first
var_none slot sub n = simp (ne_eqb sub 0 n, lt-leb sub 0 (omega arith), and-false)

module _ (slot last sub : ℕ) where
  pub array_count : sub ≡ 0 → Ok (Count last) ≡ named (meant (Array slot last) 0) sub
  unfolding named meant largest at_sub first
  array_count e =
      let m : max last 0 ≡ last = omega arith in
      rw e (simp m)

  pub array_value : (sub ≡ 0 → ⊥) → sub ≤ last → Ok (At (slot + (sub - 1))) ≡ named (meant (Array slot last) 0) sub
  unfolding named meant largest at_sub first
  array_value n h = simp (ne_eqb sub 0 n, le-leb 1 sub (omega arith), le-leb sub last h)

  pub array_none : (sub ≡ 0 → ⊥) → last < sub → Err Sub ≡ named (meant (Array slot last) 0) sub
  unfolding named meant largest at_sub first
  array_none n h = simp (ne_eqb sub 0 n, lt-leb sub last h, and-false)

module _ (sub : ℕ) where
  pub constants_count : sub ≡ 0 → Ok (Count 15) ≡ named (meant Constants 0) sub
  unfolding named meant largest at_sub first
  constants_count e = rw e

  pub constants_fixed : (sub ≡ 0 → ⊥) → sub < 3 → Ok (At (slot_of 0x5010 1 + (sub - 1))) ≡ named (meant Constants 0) sub
  unfolding named meant largest at_sub first
  constants_fixed n h = simp (ne_eqb sub 0 n, lt-leb 3 sub h, le-leb 1 sub (omega arith), le-leb sub 2 (omega arith))

  pub constants_value : 3 ≤ sub → sub ≤ 15 → Ok (At (slot_of 0x5010 3 + (sub - 3))) ≡ named (meant Constants 0) sub
  unfolding named meant largest at_sub first
  constants_value l h = simp (ne_eqb sub 0 (λ e. omega arith), le-leb 3 sub l, le-leb sub 15 h)

  pub constants_none : 15 < sub → Err Sub ≡ named (meant Constants 0) sub
  unfolding named meant largest at_sub first
  constants_none h =
      simp (ne_eqb sub 0 (λ e. omega arith), lt-leb sub 15 h, lt-leb sub 2 (omega arith), and-false)

module _ (sub : ℕ) where
  pub errors_kept : sub ≡ 0 → Ok (At (slot_of 0x1003 0)) ≡ named (meant Errors 0) sub
  unfolding named meant largest at_sub first
  errors_kept e = rw e (ap (λ (n : ℕ). Ok (At n)) (sym (add-zero (slot_of 0x1003 0))))

  pub errors_value : (sub ≡ 0 → ⊥) → sub ≤ 8 → Ok (At (slot_of 0x1003 1 + (sub - 1))) ≡ named (meant Errors 0) sub
  unfolding named meant largest at_sub first
  errors_value n h = simp (ne_eqb sub 0 n, lt-leb sub 0 (omega arith), and-false, le-leb 1 sub (omega arith), le-leb sub 8 h)

  pub errors_none : 8 < sub → Err Sub ≡ named (meant Errors 0) sub
  unfolding named meant largest at_sub first
  errors_none h = simp (ne_eqb sub 0 (λ e. omega arith), lt-leb sub 0 (omega arith), lt-leb sub 8 h, and-false)

-- ---- the stretch that a name is found in

no_slot : {missing : Missing} (slot : ℕ) → ◌≡◌ {A = Result Named Missing} (Err missing) (Ok (At slot)) → ⊥
no_slot slot q = let z : ◌≡◌ {A = ℕ} 0 1 = cc in omega arith

same_slot : (k slot : ℕ) → ◌≡◌ {A = Result Named Missing} (Ok (At k)) (Ok (At slot)) → slot ≡ k
same_slot k slot q = cc

-- where all stretches pass a test, it passed too
pub record Picked (p : Stretch → Bool) (index sub slot : ℕ) : Type 0 where
  pub stretch : Stretch
  pub passed : p stretch ≡ true
  pub index_is : stretch.index ≡ index
  pub low : stretch.from ≤ sub
  pub high : sub ≤ stretch.to
  pub at : slot ≡ stretch.slot + (sub - stretch.from)

module _ (p : Stretch → Bool) (index sub slot : ℕ) where
  q : Stretch → Bool
  q = λ t. p t && eqb t.index index

  at_sub_picked : (ss : List Stretch) → every q ss ≡ true → at_sub ss sub ≡ Ok (At slot) → Picked p index sub slot
  unfolding at_sub every first q
  at_sub_picked [] e r = absurd (no_slot slot r)
  at_sub_picked (s ∷ ss) e r = go (leb s.from sub && leb sub s.to) refl (at_sub_picked ss both.1) r
    where
      both : (q s ≡ true) × (every q ss ≡ true)
      both = (and-eq-true_iff (q s) (every q ss)).0 e

      go : (b : Bool) → (leb s.from sub && leb sub s.to) ≡ b → (at_sub ss sub ≡ Ok (At slot) → Picked p index sub slot)
          → first b (Ok (At (s.slot + (sub - s.from)))) (at_sub ss sub) ≡ Ok (At slot) → Picked p index sub slot
      go true t ih r =
          let inside = (and-eq-true_iff (leb s.from sub) (leb sub s.to)).0 t in
          let own = (and-eq-true_iff (p s) (eqb s.index index)).0 both.0 in
          record {
            stretch = s;
            passed = own.0;
            index_is = eqb-true s.index index own.1;
            low = leb-true s.from sub inside.0;
            high = leb-true sub s.to inside.1;
            at = same_slot (s.slot + (sub - s.from)) slot r;
          }
      go false t ih r = ih r

  pub picked : every p stretches ≡ true → find index sub ≡ Ok (At slot) → Picked p index sub slot
  unfolding find named first q
  picked t e = go (with_index index stretches) (every_with_index p index stretches t) e
    where
      choose : (b : Bool) (n : ℕ) (f : Result Named Missing) → first b (Ok (Count n)) f ≡ Ok (At slot) → f ≡ Ok (At slot)
      choose true n f r = absurd (let z : ◌≡◌ {A = ℕ} 0 1 = cc in omega arith)
      choose false n f r = r

      go : (ss : List Stretch) → every q ss ≡ true → named ss sub ≡ Ok (At slot) → Picked p index sub slot
      go [] t r = absurd (let z : ◌≡◌ {A = ℕ} 0 1 = cc in omega arith)
      go (s ∷ ss) t r =
          at_sub_picked (s ∷ ss) t (choose (eqb sub 0 && ltb 0 s.from) (largest (s ∷ ss)) (at_sub (s ∷ ss) sub) r)

-- every slot that a name has is one of the dictionary's words
below_words : Stretch → Bool
below_words s = ltb (s.slot + (s.to - s.from)) words

all_below_words : every below_words stretches ≡ true
unfolding every below_words stretches words
all_below_words = refl

pub found_below : (index sub : ℕ) (f : Result Named Missing) → f ≡ find index sub → slot_found f < words
unfolding below_words words
found_below index sub (Err missing) e = lit< tt
found_below index sub (Ok (Count n)) e = lit< tt
found_below index sub (Ok (At slot)) e =
    let it = picked below_words index sub slot all_below_words (sym e) in
    let l = it.low in
    let h = it.high in
    let at = it.at in
    let w = ltb-true (it.stretch.slot + (it.stretch.to - it.stretch.from)) words it.passed in
    omega arith

-- "That is 611 entries with 926 bytes of data"
pub counted : (configured ≡ 611) × (writable ≡ 624) × (words ≡ 661) × (configured_bytes ≡ 926) × (received_to ≡ 623)
unfolding configured received_to writable words configured_bytes
counted = (refl, refl, refl, refl, refl)
