-- A call of `restore_list`: what answers for a wanted image that is refused, and for two proper ones the number, the bytes, and the list that they are.
-- Assumes nothing.
use mathlib.Core.Path.{◌≡◌, ap, ◌∙◌}
use mathlib.Core.List.{List, ◌++◌}
use Prim.Native.Nat.{ℕ}
use native.Mathlib.Omega.{arith}
use lib.IntN.{ℤ, pos}
use lib.ListN.{length, take, drop}
use lib.Seq.{take-append_seam}
use borrow.Author.Tests.{le-ltb}
use Rattle.numbers.specs.Choice.{first}
use Rattle.records.specs.declared.types.Refusal.{Refusal}
use Rattle.image.specs.Reading.{reading}
use Rattle.lists.specs.Changes.{list_of}
use Rattle.lists.specs.Listing.{made, left_by}
use Rattle.gateway.specs.Restored.{told, outcome}
use Rattle.gateway.proofs.LengthLaws.{list_short}
use Rattle.promises.specs.Restoring.{Called, list_left}
use Rattle.promises.proofs.Proper.{good}
use Rattle.std.specs.Prelude.{Result, Ok, Err}
use Rattle.lists.specs.declared.types.Unmade.{Unmade}
use Rattle.lists.specs.declared.types.Unmade.TheVariants.{Wanted}

-- the wanted image's refusal is the answer, if the current one is good
pub wanted_refused : (current wanted buffer : List ℕ) {why : Refusal} → reading current ≡ Ok tt → reading wanted ≡ Err why → outcome current wanted buffer ≡ Err (Wanted why)
unfolding outcome made
wanted_refused current wanted buffer g e = rw (g, e)

module _ {current wanted buffer buffer' : List ℕ} {r : ℤ} (h : Called current wanted buffer buffer' r) where
  done : outcome current wanted buffer ≡ Ok (length (list_of current wanted))
  unfolding outcome made first
  done = rw (good h.first, good h.second, le-ltb (length buffer) (length (list_of current wanted)) (omega (arith, h.room, list_short current wanted (good h.second))))

  pub number_is : r ≡ pos (length (list_of current wanted))
  unfolding told
  number_is = h.restored.answered ∙ ap told done

  pub buffer_is : buffer' ≡ list_of current wanted ++ drop (length (list_of current wanted)) buffer
  unfolding left_by
  buffer_is = h.restored.bytes ∙ ap (λ (m : Result ℕ Unmade). left_by m (list_of current wanted) buffer) done

  pub left_is : list_left r buffer' ≡ list_of current wanted
  unfolding list_left
  left_is =
      ap (λ (n : ℤ). list_left n buffer') number_is ∙ ap (take (length (list_of current wanted))) buffer_is
      ∙ take-append_seam (list_of current wanted) (drop (length (list_of current wanted)) buffer)
