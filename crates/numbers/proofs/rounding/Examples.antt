-- Worked examples, one table: what the definitions give, computed.
-- Assumes nothing.
use mathlib.Core.List.{List, [], ◌∷◌}
use mathlib.Core.Path.{◌≡◌, refl}
use lib.IntN.{ℤ, pos, negsuc}
use lib.Ieee.{of_bits, binary32}
use Rattle.numbers.specs.Choice.{first}
use Rattle.numbers.specs.Order.{below}
use Rattle.numbers.specs.Limit.{limit_whole}
use Rattle.numbers.specs.Line.{nearest_size}
use Rattle.numbers.specs.Nearest.{limit16, nearest16}

-- REAL32 2.5, -2.5, 40000 and -0
unfoldable pub given : List ℤ
given =
    nearest16 (of_bits binary32 0x4020_0000)
    ∷ nearest16 (of_bits binary32 0xc020_0000)
    ∷ nearest16 (of_bits binary32 0x471c_4000)
    ∷ nearest16 (of_bits binary32 0x8000_0000)
    ∷ []

pub examples : given ≡ pos 3 ∷ negsuc 2 ∷ pos 32767 ∷ pos 0 ∷ []
unfolding given nearest16 limit16 limit_whole nearest_size below first of_bits
examples = refl
