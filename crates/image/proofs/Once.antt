-- Two answers that the contract of writing or of loading an image allows are equal, with all that they leave.
-- Assumes nothing.
use Prim.Native.Nat.{ℕ}
use mathlib.Core.List.{List}
use mathlib.Core.Path.{◌≡◌, sym, ◌∙◌}
use Rattle.image.specs.Loaded.{Loaded}
use Rattle.image.specs.Written.{Written}
use Rattle.std.specs.Prelude.{Result, ⊤}
use Rattle.records.specs.declared.types.Refusal.{Refusal}

pub written_once : {words buffer x y : List ℕ} {r s : Result ⊤ Refusal} → Written words buffer x r → Written words buffer y s → (r ≡ s) × (x ≡ y)
written_once p q = (p.answered ∙ sym q.answered, p.bytes ∙ sym q.bytes)

pub loaded_once : {image unit x y : List ℕ} {r s : Result ⊤ Refusal} → Loaded image unit x r → Loaded image unit y s → (r ≡ s) × (x ≡ y)
loaded_once p q = (p.answered ∙ sym q.answered, p.state ∙ sym q.state)
