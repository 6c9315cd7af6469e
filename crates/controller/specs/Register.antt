-- The error register: "1001h is 21h while any input is flagged, else 0".
-- Assumes nothing.
use Rattle.std.specs.Prelude.{ℕ, Bool, ◌||◌, List}
use Rattle.numbers.specs.Choice.{first}
use Rattle.unit.specs.Entry.{publish}
use Rattle.input.specs.Inputs.{memory}

unfoldable pub any_flagged : List ℕ → Bool
any_flagged unit =
    (memory unit 1).flagged || (memory unit 2).flagged || (memory unit 3).flagged || (memory unit 4).flagged

unfoldable pub registered : List ℕ → List ℕ
registered unit = publish unit 0x1001 0 (first (any_flagged unit) 0x21 0)
