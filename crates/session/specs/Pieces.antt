-- However the input falls into pieces, what is printed is the answer to the whole input, the last line without its end too.
-- Assumes nothing.
use Rattle.std.specs.Prelude.{ℕ, ◌≡◌, length}
use mathlib.Core.List.{List, [], ◌∷◌, ◌++◌, flat_map}
use Rattle.printer.specs.Answering.{Said}
use Rattle.session.specs.Dialogue.{Kept, after, prints, closed, session}

-- piece after piece, and then the end
unfoldable pub fed : Kept → List (List ℕ) → Said
fed k [] = closed k
fed k (piece ∷ rest) = let s = fed (after k piece) rest in record { left = s.left; printed = prints k piece ++ s.printed }

unfoldable pub whole : List (List ℕ) → List ℕ
whole pieces = flat_map (λ (piece : List ℕ). piece) pieces

-- from a unit and an array for a line, of which nothing is held
unfoldable pub InAnyPieces : Type 0
InAnyPieces = (pieces : List (List ℕ)) (unit line : List ℕ) → length line ≡ 65 → fed (record { unit = unit; line = line; held = 0 }) pieces ≡ session (whole pieces) unit
