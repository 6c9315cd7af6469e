-- Words that definitions choose by: the first rule whose test holds, and a test that every element passes.
-- Assumes nothing.
use Rattle.std.specs.Prelude.{Bool, true, false, ◌&&◌, List, [], ◌∷◌}

-- a table of rules in order, "First match"
unfoldable pub first : {A : Type 0} → Bool → A → A → A
first true answer rest = answer
first false answer rest = rest

unfoldable pub every : {A : Type 0} → (A → Bool) → List A → Bool
every test [] = true
every test (x ∷ rest) = test x && every test rest
