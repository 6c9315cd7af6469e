-- What the code's short account of an index stands for: the stretches that the table has under it.
-- Assumes nothing.
use Rattle.std.specs.Prelude.{ℕ, List, [], ◌∷◌, ◌≡◌}
use Rattle.dictionary.specs.Names.{Stretch, stretches, with_index, slot_of}
use Rattle.dictionary.specs.declared.objects.Object.{Object}
use Rattle.dictionary.specs.declared.objects.Object.TheVariants.{Unknown, Var, Array, Constants, Errors}

unfoldable pub meant : Object → ℕ → List Stretch
unfolding slot_of
meant Unknown index = []
meant (Var slot) index = record { index = index; from = 0; to = 0; slot = slot } ∷ []
meant (Array slot last) index = record { index = index; from = 1; to = last; slot = slot } ∷ []
meant Constants index =
    record { index = index; from = 3; to = 15; slot = slot_of 0x5010 3 } ∷ record { index = index; from = 1; to = 2; slot = slot_of 0x5010 1 } ∷ []
meant Errors index =
    record { index = index; from = 0; to = 0; slot = slot_of 0x1003 0 } ∷ record { index = index; from = 1; to = 8; slot = slot_of 0x1003 1 } ∷ []

-- the account of an index is right
pub record Rows (o : Object) (index : ℕ) : Type 0 where
  pub are : meant o index ≡ with_index index stretches
