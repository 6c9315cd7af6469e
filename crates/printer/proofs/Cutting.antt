-- A line cut at its spaces.
-- Assumes nothing.
use Prim.Native.Nat.{ℕ, suc, ◌-◌, ◌≤◌}
use mathlib.Core.Bool.{Bool, true, false, cond}
use mathlib.Core.List.{List, [], ◌∷◌, ◌++◌}
use mathlib.Core.Path.{◌≡◌, refl, ap}
use native.Mathlib.Omega.{arith}
use lib.Dec.{eqb}
use lib.ListN.{length, take, drop, length-drop}
use lib.Seq.{take_all}
use denote.Param.Members.{Mut}
use denote.Ref.{Bor}
use Rattle.std.specs.Fn.{CalledAt}
use Rattle.std.specs.List.{slice_split, onto_first}
use Rattle.std.specs.Slice.Iter.{split_rest, split_done, split_callee, split_steps}
use Rattle.std.proofs.lemmas.Iterator.{YieldsList}
use Rattle.std.proofs.lemmas.Iterator.Splits.{YieldsList-from_slice_split}
use Rattle.numbers.specs.Choice.{first, every}
use Rattle.printer.specs.Reading.{fields, ahead}
use Rattle.printer.proofs.Every.{both}

-- how many bytes stand before the first space
unfoldable pub span : List ℕ → ℕ
span [] = 0
span (b ∷ rest) = first (eqb b 0x20) 0 (suc (span rest))

-- the fields past the space that a rest begins with; at the line's end there are none
unfoldable pub following : List ℕ → List (List ℕ)
following [] = []
following (space ∷ rest) = fields rest

pub span_within : (l : List ℕ) → span l ≤ length l
unfolding span first
span_within [] = omega arith
span_within (b ∷ rest) = either (eqb b 0x20) (span_within rest) where
  either : (t : Bool) → span rest ≤ length rest → first t 0 (suc (span rest)) ≤ suc (length rest)
  either true h = omega arith
  either false h = omega arith

-- ---- the first field is what stands before the first space
pub cut : (l : List ℕ) → fields l ≡ take (span l) l ∷ following (drop (span l) l)
unfolding fields span following ahead first
cut [] = refl
cut (b ∷ rest) = either (eqb b 0x20) (cut rest) where
  either : (t : Bool) → fields rest ≡ take (span rest) rest ∷ following (drop (span rest) rest)
      → first t ([] ∷ fields rest) (ahead b (fields rest)) ≡ take (first t 0 (suc (span rest))) (b ∷ rest) ∷ following (drop (first t 0 (suc (span rest))) (b ∷ rest))
  either true e = refl
  either false e = ap (ahead b) e

-- the fields are the parts of std's split
fields_split : (l : List ℕ) → fields l ≡ slice_split (λ b. eqb b 0x20) l
unfolding fields ahead first
fields_split [] = refl
fields_split (b ∷ rest) = rw (fields_split rest) (either (eqb b 0x20) (slice_split (λ b. eqb b 0x20) rest)) where
  either : (t : Bool) (parts : List (List ℕ)) → first t ([] ∷ parts) (ahead b parts) ≡ cond t ([] ∷ parts) (onto_first b parts)
  either true parts = refl
  either false [] = refl
  either false (part ∷ parts) = refl

-- so a loop over `split`, by a closure that tells a space, goes over the fields
pub road : {F : Type 0} {s : _} (g : Mut F (Bor ℕ × Unit {0}) Bool) {f : F} (l : List ℕ) → split_rest s ≡ l → split_done s ≡ false → split_callee s ≡ f
    → ((x : ℕ) (b : Bool) (q : F) → CalledAt g f x b q → (q ≡ f) × (b ≡ eqb x 0x20)) → YieldsList (split_steps g) (λ x. x.now) s (fields l)
road g l r d c k = rw (fields_split l) (YieldsList-from_slice_split g (λ b. eqb b 0x20) l r d c k)

-- ---- bytes that pass a test which no space passes stay in one field
module _ (test : ℕ → Bool) (no : (b : ℕ) → test b ≡ true → eqb b 0x20 ≡ false) where
  pub whole : (l : List ℕ) → every test l ≡ true → fields l ≡ l ∷ []
  unfolding every fields ahead first
  whole [] e = refl
  whole (b ∷ rest) e =
      let k : (test b ≡ true) × (every test rest ≡ true) = both (test b) (every test rest) e in
      rw (no b k.0, whole rest k.1)

  pub apart : (l rest : List ℕ) → every test l ≡ true → fields (l ++ 0x20 ∷ rest) ≡ l ∷ fields rest
  unfolding every fields ahead first
  apart [] rest e = refl
  apart (b ∷ l) rest e =
      let k : (test b ≡ true) × (every test l ≡ true) = both (test b) (every test l) e in
      rw (no b k.0, apart l rest k.1)

-- a part from n to the end
pub tail : (n : ℕ) (l : List ℕ) → take (length l - n) (drop n l) ≡ drop n l
tail n l = take_all (length l - n) (drop n l) (simp length-drop (omega arith))
