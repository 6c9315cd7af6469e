-- Worked examples, one table: what the definitions give, computed.
-- Assumes nothing.
use mathlib.Core.List.{List, [], ◌∷◌}
use mathlib.Core.Path.{◌≡◌, refl}
use lib.IntN.{ℤ, pos, negsuc}
use Rattle.numbers.specs.Choice.{first}
use Rattle.numbers.specs.Order.{below}
use Rattle.numbers.specs.Line.{nearest_size, nearest, between, line_at}

-- the line (500, 0) to (4500, 1000) at 2500, 501 and 502; (0, -1) to (2, 0) and (0, 1) to (2, 0) at 1, where the value is a half
unfoldable pub given : List ℤ
given =
    line_at (pos 500) (pos 0) (pos 4500) (pos 1000) (pos 2500)
    ∷ line_at (pos 500) (pos 0) (pos 4500) (pos 1000) (pos 501)
    ∷ line_at (pos 500) (pos 0) (pos 4500) (pos 1000) (pos 502)
    ∷ line_at (pos 0) (negsuc 0) (pos 2) (pos 0) (pos 1)
    ∷ line_at (pos 0) (pos 1) (pos 2) (pos 0) (pos 1)
    ∷ []

pub examples : given ≡ pos 500 ∷ pos 0 ∷ pos 1 ∷ negsuc 0 ∷ pos 1 ∷ []
unfolding given line_at between nearest nearest_size below first
examples = refl
