-- Which images are accepted: those of the right count and length, right in every record, and in order.
-- Assumes nothing.
use mathlib.Core.Path.{◌≡◌, refl}
use mathlib.Core.Bool.{Bool, true, false, not}
use mathlib.Core.List.{List}
use Prim.Native.Nat.{ℕ, ◌+◌}
use native.Mathlib.Omega.{arith}
use lib.Dec.{ltb}
use lib.ListN.{length}
use borrow.Author.Tests.{ltb-false, le-ltb}
use Rattle.numbers.specs.Choice.{first}
use Rattle.records.specs.Layout.{listed, extent}
use Rattle.records.specs.Walk.{taken_in}
use Rattle.records.specs.declared.types.Refusal.{Refusal}
use Rattle.records.specs.declared.types.Refusal.TheVariants.{OutOfOrder, LeftOver}
use Rattle.records.proofs.RightLaws.{Whole, whole, whole_taken_in}
use Rattle.records.proofs.SizeLaws.{listed_extent}
use Rattle.image.specs.Reading.{in_order, configuration_in, finished, reading}
use Rattle.image.proofs.reading.PlaceLaws.{exact}
use Rattle.std.specs.Prelude.{Result, Ok, Err, ⊤}

pub record Accepted (image : List ℕ) : Type 0 where
  pub long : length image ≡ 5207
  pub walk : Whole image
  pub order : in_order (configuration_in image) ≡ true

pub not_good : {why : Refusal} → ◌≡◌ {A = Result ⊤ Refusal} (Err why) (Ok tt) → ⊥
not_good e = cc

pub accepted : (image : List ℕ) → reading image ≡ Ok tt → Accepted image
unfolding reading finished first
accepted image g = go (taken_in image) refl g
  where
    ended : (n : ℕ) (more : Bool) → ltb n (length image) ≡ more → (ordered : Bool) → in_order (configuration_in image) ≡ ordered → taken_in image ≡ Ok n
        → first {A = Result ⊤ Refusal} more (Err LeftOver) (first (not ordered) (Err OutOfOrder) (Ok tt)) ≡ Ok tt → Accepted image
    ended n true p ordered q t g = absurd (not_good g)
    ended n false p false q t g = absurd (not_good g)
    ended n false p true q t g = record { long = exact image t (ltb-false n (length image) p); walk = whole image t; order = q }

    go : (w : Result ℕ Refusal) → taken_in image ≡ w → finished image w ≡ Ok tt → Accepted image
    go (Err why) t g = absurd (not_good g)
    go (Ok n) t g = ended n (ltb n (length image)) refl (in_order (configuration_in image)) refl t g

pub accepts : (image : List ℕ) → Accepted image → reading image ≡ Ok tt
unfolding reading finished first
accepts image a =
    let long = a.long in
    rw (whole_taken_in image a.walk, le-ltb (4 + extent listed) (length image) (omega (arith, listed_extent)), a.order)
