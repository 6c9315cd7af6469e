-- What is found between two images, by what reading each of them finds.
-- Assumes nothing.
use mathlib.Core.Path.{◌≡◌, refl, ap}
use mathlib.Core.List.{List}
use Prim.Native.Nat.{ℕ}
use lib.Seq.{sets}
use Rattle.records.specs.declared.types.Refusal.{Refusal}
use Rattle.image.specs.Reading.{reading}
use Rattle.lists.specs.Changes.{places, noted, found, noting, Finding}
use Rattle.lists.specs.declared.changes.types.Noted.{Noted}
use Rattle.std.specs.Prelude.{Result, Ok, Err, IsErrAnd, MatchResult, ⊤}
use Rattle.lists.specs.declared.types.Unmade.TheVariants.{Current, Wanted}

-- ---- what `map_err` was given

module _ {E F : Type 0} (becomes : E → F → Type 0) (r : Result ⊤ E) {m : Result ⊤ F} (c : MatchResult r (λ x. m ≡ Ok x) (λ e. IsErrAnd m (becomes e))) where
  pub was_good : {x : ⊤} → m ≡ Ok x → r ≡ Ok tt
  was_good q = go r c
    where
      go : (r : Result ⊤ E) → MatchResult r (λ x. m ≡ Ok x) (λ e. IsErrAnd m (becomes e)) → r ≡ Ok tt
      go (Ok x) c = refl
      go (Err e) c = absurd (rw q at c)

  pub was_refused : {f : F} → m ≡ Err f → (e : E) × (r ≡ Err e) × becomes e f
  was_refused {f} q = go r c
    where
      go : (r : Result ⊤ E) → MatchResult r (λ x. m ≡ Ok x) (λ e. IsErrAnd m (becomes e)) → (e : E) × (r ≡ Err e) × becomes e f
      go (Ok x) c = absurd cc
      go (Err e) c = (e, refl, rw q at c)

-- ---- by what reading each image finds

module _ {current wanted notes : List ℕ} where
  pub current_refused : {why : Refusal} → reading current ≡ Err why → Finding current wanted notes notes (Err (Current why))
  unfolding found noting
  current_refused e = record { answered = rw e; laid = refl }

  module _ (g : reading current ≡ Ok tt) where
    pub wanted_refused : {why : Refusal} → reading wanted ≡ Err why → Finding current wanted notes notes (Err (Wanted why))
    unfolding found noting
    wanted_refused e = record { answered = rw (g, e); laid = refl }

    pub both_good : reading wanted ≡ Ok tt → {notes' : List ℕ} {n : Noted} → n ≡ noted current wanted → notes' ≡ sets notes n.low (places current wanted)
        → Finding current wanted notes notes' (Ok n)
    unfolding found noting
    both_good e n l = record { answered = rw (g, e) (ap Ok n); laid = l }
