-- A name looked up in the records of some entries: the data of the first entry that has it.
-- Assumes nothing.
use mathlib.Core.Path.{◌≡◌, refl, sym, ap, ◌∙◌}
use mathlib.Core.Bool.{Bool, true, false, ◌&&◌, and-eq-true_iff}
use mathlib.Core.List.{List, [], ◌∷◌}
use Prim.Native.Nat.{ℕ, zero, suc, ◌+◌, ◌<◌, suc-le-suc}
use native.Mathlib.Nat.{le_of_suc-le-suc, not-suc-le-zero}
use native.Mathlib.Omega.{arith}
use lib.Dec.{eqb}
use lib.ListN.{length, take, drop}
use lib.Seq.{drop-drop}
use borrow.Author.Tests.{eqb-true, eq-eqb}
use Rattle.numbers.specs.Choice.{first}
use Rattle.records.specs.Layout.{Listed, size, entry, offset}
use Rattle.records.proofs.RightLaws.{Right, AllRight}
use Rattle.records.specs.LookUp.{looked}
use Rattle.records.proofs.lookup.FindLaws.{there}

abbrev pub Named : ℕ → ℕ → Listed → Type 0
Named index sub e = (e.index ≡ index) × (e.sub ≡ sub)

-- ---- one record

module _ (index sub n : ℕ) (e : Listed) (rest : List ℕ) (r : Right e rest) where
  is_it : Bool
  is_it = eqb e.index index && eqb e.sub sub

  one_record : looked (suc n) index sub rest ≡ first is_it (take (size e) (drop 7 rest)) (looked n index sub (drop (7 + size e) rest))
  unfolding is_it
  one_record =
      let room = r.room in
      there (suc n) n index sub rest refl refl (omega arith) (sym r.sized) room {b = is_it} (rw (r.index, r.sub))

  found : Named index sub e → looked (suc n) index sub rest ≡ take (size e) (drop 7 rest)
  unfolding is_it first
  found m = one_record ∙ rw (eq-eqb e.index index m.0, eq-eqb e.sub sub m.1)

  passed : (Named index sub e → ⊥) → looked (suc n) index sub rest ≡ looked n index sub (drop (7 + size e) rest)
  unfolding is_it first
  passed m = one_record ∙ go is_it refl
    where
      go : (b : Bool) → is_it ≡ b → first b (take (size e) (drop 7 rest)) (looked n index sub (drop (7 + size e) rest)) ≡ looked n index sub (drop (7 + size e) rest)
      go true t =
          let both = (and-eq-true_iff (eqb e.index index) (eqb e.sub sub)).0 t in
          absurd (m (eqb-true e.index index both.0, eqb-true e.sub sub both.1))
      go false t = refl

-- ---- one after the other

module _ (index sub : ℕ) where
  -- where no entry before it has the name
  pub at_entry : (es : List Listed) (rest : List ℕ) → AllRight es rest → (slot : ℕ) → slot < length es → Named index sub (entry es slot)
      → ((k : ℕ) → k < slot → Named index sub (entry es k) → ⊥)
      → looked (length es) index sub rest ≡ take (size (entry es slot)) (drop 7 (drop (offset es slot) rest))
  unfolding AllRight entry offset
  at_entry [] rest r slot h m apart = absurd (not-suc-le-zero h)
  at_entry (e ∷ es) rest r zero h m apart = found index sub (length es) e rest r.0 m
  at_entry (e ∷ es) rest r (suc slot) h m apart =
      passed index sub (length es) e rest r.0 (apart 0 (omega arith))
      ∙ at_entry es (drop (7 + size e) rest) r.1 slot (le_of_suc-le-suc h) m (λ k l. apart (suc k) (suc-le-suc l))
      ∙ ap (λ (l : List ℕ). take (size (entry es slot)) (drop 7 l)) (drop-drop (offset es slot) (7 + size e) rest)

  pub no_entry : (es : List Listed) (rest : List ℕ) → AllRight es rest → ((k : ℕ) → k < length es → Named index sub (entry es k) → ⊥) → looked (length es) index sub rest ≡ []
  unfolding AllRight entry looked
  no_entry [] rest r none = refl
  no_entry (e ∷ es) rest r none =
      passed index sub (length es) e rest r.0 (none 0 (omega arith))
      ∙ no_entry es (drop (7 + size e) rest) r.1 (λ k l. none (suc k) (suc-le-suc l))
