-- What is told to C is what was made.
-- Assumes nothing.
use mathlib.Core.Path.{◌≡◌, refl, sym, ap, ◌∙◌}
use mathlib.Core.Bool.{Bool, true, false}
use mathlib.Core.List.{List}
use Prim.Native.Nat.{ℕ, ◌≤◌}
use native.Mathlib.Omega.{arith}
use lib.Dec.{ltb}
use lib.IntN.{ℤ}
use lib.ListN.{length}
use Rattle.numbers.specs.Choice.{first}
use Rattle.records.specs.declared.types.Refusal.{Refusal}
use Rattle.image.specs.Reading.{reading}
use Rattle.lists.specs.Changes.{list_of}
use Rattle.gateway.proofs.LengthLaws.{list_short}
use Rattle.lists.specs.Listing.{made, left_by, Listing}
use Rattle.gateway.specs.Restored.{told, outcome, Restored}
use Rattle.std.specs.Prelude.{Result, Ok, Err, ⊤}
use Rattle.lists.specs.declared.types.Unmade.{Unmade}
use Rattle.lists.specs.declared.types.Unmade.TheVariants.{NoRoom}

module _ {current wanted buffer buffer' : List ℕ} {r : Result ℕ Unmade} (l : Listing current wanted buffer buffer' r) where
  pub as_told : {z : ℤ} → z ≡ told r → Restored current wanted buffer buffer' z
  unfolding outcome
  as_told e = record { answered = e ∙ ap told l.answered; bytes = l.bytes ∙ ap (λ (m : Result ℕ Unmade). left_by m (list_of current wanted) buffer) l.answered }

  -- no list is longer than an image
  pub done_short : {n : ℕ} → r ≡ Ok n → n ≤ 5207
  unfolding made first
  done_short {n} e = go (reading current) (reading wanted) refl (sym e ∙ l.answered)
    where
      fitted : reading wanted ≡ Ok tt → (t : Bool) → Ok n ≡ first t (Err NoRoom) (Ok (length (list_of current wanted))) → n ≤ 5207
      fitted w true q = absurd cc
      fitted w false q = let same : n ≡ length (list_of current wanted) = cc in omega (arith, list_short current wanted w)

      go : (a b : Result ⊤ Refusal) → reading wanted ≡ b → Ok n ≡ made a b (length (list_of current wanted)) (length buffer) → n ≤ 5207
      go (Err x) b w q = absurd cc
      go (Ok _) (Err x) w q = absurd cc
      go (Ok _) (Ok _) w q = fitted w (ltb (length buffer) (length (list_of current wanted))) q
