-- What a name stands for in a unit: what it names, but for the subs of 1003h above the number kept.
-- Assumes nothing.
use Prim.Native.Nat.{ℕ, ◌<◌, ◌≤◌, zero-le}
use mathlib.Core.Bool.{Bool, true, false, true≢false, not, ◌&&◌, ◌||◌}
use mathlib.Core.List.{List}
use mathlib.Core.Path.{◌≡◌, refl, sym, ap, ◌∙◌}
use native.Mathlib.Nat.{le_trans}
use native.Mathlib.Omega.{arith}
use lib.Dec.{eqb, ltb, leb, lit<}
use lib.ListN.{get_or}
use borrow.Author.Tests.{ne_eqb, eqb-true, lt-ltb, le-ltb, leb-true}
use Rattle.numbers.specs.Choice.{first}
use Rattle.dictionary.specs.Names.{Stretch, stretches, with_index, named, find, slot_of, slot_found, hidden, sought, writable, words}
use Rattle.dictionary.specs.Objects.{meant, Rows}
use Rattle.std.specs.Prelude.{Result, Ok, Err}
use Rattle.dictionary.specs.declared.types.Named.{Named}
use Rattle.dictionary.specs.declared.types.Named.TheVariants.{At}
use Rattle.dictionary.specs.declared.types.Missing.{Missing}
use Rattle.dictionary.specs.declared.types.Missing.TheVariants.{Sub}
use Rattle.dictionary.specs.declared.objects.Object.{Object}
use Rattle.dictionary.specs.declared.objects.Object.TheVariants.{Unknown, Var, Array, Constants, Errors}
use Rattle.dictionary.proofs.Once.{rows_once}
use Rattle.dictionary.proofs.OneEach.{names_apart}
use Rattle.dictionary.proofs.naming.NameLaws.{every, Picked, picked, by_object, found_below, errors_kept}

-- ---- hidden or not

module _ (unit : List ℕ) (index sub : ℕ) where
  pub is_hidden : hidden unit index sub ≡ true → Err Sub ≡ sought unit index sub
  unfolding sought first
  is_hidden h = rw h

  pub is_shown : hidden unit index sub ≡ false → find index sub ≡ sought unit index sub
  unfolding sought first
  is_shown h = rw h

  -- a name that stands for an entry now is found in the table
  pub sought_at : (slot : ℕ) → sought unit index sub ≡ Ok (At slot) → find index sub ≡ Ok (At slot)
  unfolding sought first
  sought_at slot e = go (hidden unit index sub) e
    where
      go : (b : Bool) → first b (Err Sub) (find index sub) ≡ Ok (At slot) → find index sub ≡ Ok (At slot)
      go true q = let z : ◌≡◌ {A = ℕ} 0 1 = cc in absurd (omega arith)
      go false q = q

  pub sought_below : (f : Result Named Missing) → f ≡ sought unit index sub → slot_found f < words
  unfolding sought first words
  sought_below f e = go (hidden unit index sub) e
    where
      go : (b : Bool) → f ≡ first b (Err Sub) (find index sub) → slot_found f < words
      go true q = rw q (lit< tt)
      go false q = found_below index sub f q

-- ---- 1003h, told by its rows

listed : Rows Errors 0x1003
unfolding stretches with_index meant first
listed = record { are = refl }

named_errors : (sub : ℕ) → named (meant Errors 0) sub ≡ find 0x1003 sub
named_errors sub = by_object Errors Errors 0x1003 sub refl listed

module _ (unit : List ℕ) (sub : ℕ) where
  pub past_kept : get_or unit (slot_of 0x1003 0) 0 < sub → Err Sub ≡ sought unit 0x1003 sub
  unfolding hidden
  past_kept h = is_hidden unit 0x1003 sub (lt-ltb _ sub h)

  pub up_to_kept : sub ≤ get_or unit (slot_of 0x1003 0) 0 → named (meant Errors 0) sub ≡ sought unit 0x1003 sub
  unfolding hidden
  up_to_kept h = named_errors sub ∙ is_shown unit 0x1003 sub (le-ltb _ sub h)

-- the rows of 1003h are no other index's
only_there : {r : Object} {index : ℕ} → r ≡ Errors → Rows r index → index ≡ 0x1003
only_there {r} {index} e rows =
    (names_apart index 0 0x1003 0 (slot_of 0x1003 0)
    (sym (by_object r Errors index 0 e rows) ∙ sym (errors_kept 0 refl))
    (sym (named_errors 0) ∙ sym (errors_kept 0 refl))).0

pub there : (r : Object) (unit : List ℕ) (index sub : ℕ) → r ≡ Errors → Rows r index → sought unit 0x1003 sub ≡ sought unit index sub
there r unit index sub e rows = ap (λ (i : ℕ). sought unit i sub) (sym (only_there e rows))

-- and any other account is another index's
unfoldable pub is_errors : Object → Bool
is_errors Unknown = false
is_errors (Var slot) = false
is_errors (Array slot last) = false
is_errors Constants = false
is_errors Errors = true

pub elsewhere : (r o : Object) (unit : List ℕ) (index sub : ℕ) → r ≡ o → Rows r index → is_errors o ≡ false → named (meant o 0) sub ≡ sought unit index sub
unfolding hidden is_errors
elsewhere r o unit index sub e rows other =
    let away : index ≡ 0x1003 → ⊥ = λ q. true≢false (ap is_errors (sym (rows_once (rw q at rows) listed) ∙ e) ∙ other) in
    by_object r o index sub e rows ∙ is_shown unit index sub (rw (ne_eqb index 0x1003 away))

-- ---- a name that can be written is never hidden: of 1003h only sub 0 is such

never_hidden : Stretch → Bool
never_hidden s = not (eqb s.index 0x1003) || (leb writable s.slot || eqb s.to 0)

all_so : every never_hidden stretches ≡ true
unfolding every never_hidden stretches writable
all_so = refl

module _ (unit : List ℕ) (index sub slot : ℕ) (e : find index sub ≡ Ok (At slot)) (h : slot < writable) where
  not_hidden : hidden unit index sub ≡ false
  unfolding hidden never_hidden
  not_hidden = go (eqb index 0x1003) refl
    where
      it : Picked never_hidden index sub slot
      it = picked never_hidden index sub slot all_so e

      s : Stretch
      s = it.stretch

      last : (a : Bool) → leb writable s.slot ≡ a → (a || eqb s.to 0) ≡ true → sub ≤ 0
      last true p t = let l = leb-true writable s.slot p in omega (arith, it.at)
      last false p t = omega (arith, it.high, eqb-true s.to 0 t)

      go : (b : Bool) → eqb index 0x1003 ≡ b → (b && ltb (get_or unit (slot_of 0x1003 0) 0) sub) ≡ false
      go true q = le-ltb _ sub (le_trans (last (leb writable s.slot) refl (rw (it.index_is, q) at it.passed)) zero-le)
      go false q = refl

  pub still_sought : sought unit index sub ≡ Ok (At slot)
  still_sought = sym (is_shown unit index sub not_hidden) ∙ e
