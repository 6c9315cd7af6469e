-- Two answers that the contract of finding what differs or of making a list allows are equal, with all that they leave.
-- Assumes nothing.
use Prim.Native.Nat.{ℕ}
use mathlib.Core.List.{List}
use mathlib.Core.Path.{◌≡◌, sym, ap, ◌∙◌}
use Rattle.lists.specs.Changes.{list_of, places, noting, Finding}
use Rattle.lists.specs.Listing.{left_by, Listing}
use Rattle.lists.specs.declared.changes.types.Noted.{Noted}
use Rattle.std.specs.Prelude.{Result}
use Rattle.lists.specs.declared.types.Unmade.{Unmade}

module _ {current wanted before x y : List ℕ} where
  pub found_once : {r s : Result Noted Unmade} → Finding current wanted before x r → Finding current wanted before y s → (r ≡ s) × (x ≡ y)
  found_once p q =
      let same = p.answered ∙ sym q.answered in
      (same, p.laid ∙ ap (λ (f : Result Noted Unmade). noting f before (places current wanted)) same ∙ sym q.laid)

  pub listed_once : {r s : Result ℕ Unmade} → Listing current wanted before x r → Listing current wanted before y s → (r ≡ s) × (x ≡ y)
  listed_once p q =
      let same = p.answered ∙ sym q.answered in
      (same, p.bytes ∙ ap (λ (m : Result ℕ Unmade). left_by m (list_of current wanted) before) same ∙ sym q.bytes)
