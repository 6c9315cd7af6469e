-- Names and slots: every slot has one name, and two names never share a slot.
-- Assumes nothing.
use mathlib.Core.Path.{◌≡◌, refl, sym, ap, ◌∙◌}
use mathlib.Core.Bool.{Bool, true, ◌&&◌, and-eq-true_iff}
use Prim.Native.Nat.{ℕ, zero, suc, ◌+◌, ◌-◌, ◌<◌}
use native.Mathlib.Nat.{not-suc-le-zero, eq-or-lt_of_le, le_of_suc-le-suc}
use mathlib.Core.Logic.{⊎_elim}
use native.Mathlib.Omega.{arith}
use lib.Dec.{eqb, ltb}
use borrow.Author.Tests.{ltb-true, eqb-true}
use Rattle.dictionary.specs.OneEach.{NamesApart, SlotNamed, SlotsApart}
use Rattle.dictionary.specs.Names.{Stretch, stretches, find, index_at, sub_at, words}
use Rattle.std.specs.Prelude.{Result, Ok, Err}
use Rattle.dictionary.specs.declared.types.Named.{Named}
use Rattle.dictionary.specs.declared.types.Named.TheVariants.{At}
use Rattle.dictionary.specs.declared.types.Missing.{Missing}
use Rattle.dictionary.specs.declared.types.Missing.TheVariants.{Index}
use Rattle.dictionary.proofs.naming.NameLaws.{every, picked}
use Rattle.dictionary.proofs.Tabulate.{tabulate, agree}

-- ---- a test that each number below a bound passes

unfoldable pub up_to : ℕ → (ℕ → Bool) → Bool
up_to zero p = true
up_to (suc n) p = p n && up_to n p

below_up_to : (n : ℕ) (p : ℕ → Bool) → up_to n p ≡ true → (k : ℕ) → k < n → p k ≡ true
unfolding up_to
below_up_to zero p e k h = absurd (not-suc-le-zero h)
below_up_to (suc n) p e k h = ⊎_elim (λ q. ap p q ∙ both.0) (λ l. below_up_to n p both.1 k l) (eq-or-lt_of_le (le_of_suc-le-suc h))
  where
    both : (p n ≡ true) × (up_to n p ≡ true)
    both = (and-eq-true_iff (p n) (up_to n p)).0 e

-- the names of a stretch stand at its slots, which are all among the words
names_there : Stretch → Bool
names_there s =
    ltb (s.slot + (s.to - s.from)) words
    && up_to (suc s.to - s.from) (λ k. eqb (index_at (s.slot + k)) s.index && eqb (sub_at (s.slot + k)) (s.from + k))

all_there : every names_there stretches ≡ true
unfolding every names_there up_to stretches index_at sub_at words
all_there = refl

-- a name stands at a slot
pub record Stands (index sub slot : ℕ) : Type 0 where
  pub below : slot < words
  pub index_is : index_at slot ≡ index
  pub sub_is : sub_at slot ≡ sub

-- a name that is found at a slot stands there
pub found_stands : (index sub slot : ℕ) → find index sub ≡ Ok (At slot) → Stands index sub slot
unfolding names_there
found_stands index sub slot e =
    let it = picked names_there index sub slot all_there e in
    let s = it.stretch in
    let l = it.low in
    let h = it.high in
    let at = it.at in
    let k = sub - s.from in
    let named : ℕ → Bool = λ k. eqb (index_at (s.slot + k)) s.index && eqb (sub_at (s.slot + k)) (s.from + k) in
    let sized = (and-eq-true_iff (ltb (s.slot + (s.to - s.from)) words) (up_to (suc s.to - s.from) named)).0 it.passed in
    let there = (and-eq-true_iff (eqb (index_at (s.slot + k)) s.index) (eqb (sub_at (s.slot + k)) (s.from + k))).0 (below_up_to (suc s.to - s.from) named sized.1 k (omega arith)) in
    let small = ltb-true (s.slot + (s.to - s.from)) words sized.0 in
    let sum : s.from + k ≡ sub = omega arith in
    record {
      below = omega arith;
      index_is = ap index_at at ∙ eqb-true (index_at (s.slot + k)) s.index there.0 ∙ it.index_is;
      sub_is = ap sub_at at ∙ eqb-true (sub_at (s.slot + k)) (s.from + k) there.1 ∙ sum;
    }

pub names_apart : NamesApart
names_apart i s j t slot e f =
    let a = found_stands i s slot e in
    let b = found_stands j t slot f in
    (sym a.index_is ∙ b.index_is, sym a.sub_is ∙ b.sub_is)

each_found : tabulate words 0 (λ slot. find (index_at slot) (sub_at slot)) ≡ tabulate words 0 (λ slot. Ok (At slot))
unfolding tabulate find index_at sub_at words
each_found = refl

pub slot_named : SlotNamed
slot_named = agree words (λ slot. find (index_at slot) (sub_at slot)) (λ slot. Ok (At slot)) (Err Index) each_found

pub slots_apart : SlotsApart
slots_apart k slot h l i s =
    let one = slot_named k h in
    let other = slot_named slot l in
    let same : ◌≡◌ {A = Result Named Missing} (Ok (At k)) (Ok (At slot)) = sym one ∙ rw (i, s) other in
    cc
