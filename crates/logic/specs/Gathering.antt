-- What a table's operator makes of its three conditions, taken one after the other: c counts from 0, and `so` is what was gathered before.
-- `GatheringLaws` has it that three of them come to `holding`, and that nothing after a settled one matters.
-- Assumes nothing.
use Rattle.std.specs.Prelude.{ℕ, Bool, true, false, not, ◌&&◌, ◌||◌, eqb, ltb}
use Rattle.numbers.specs.Choice.{first}
use Rattle.logic.specs.Logic.{is_true, allows}
use Rattle.logic.specs.declared.Verdict.{Verdict}

-- "1 all three, N/A counts as true"; "N/A is false in 2 to 4"
unfoldable pub counts : ℕ → Verdict → Bool
counts operator v = first (eqb operator 1) (allows v) (is_true v)

-- "1 all three; 2 any; 3 (1 and 2) or 3; 4 (1 or 2) and 3": whether the next has to hold too, or may hold instead
unfoldable pub both : ℕ → ℕ → Bool
both operator c =
    first (eqb operator 1) true
    (first (eqb operator 2) false
    (first (eqb operator 3) (ltb c 2)
    (eqb c 2)))

-- `holds` tells whether the next one counts
unfoldable pub gathered : ℕ → ℕ → Bool → Bool → Bool
gathered operator c so holds =
    first (eqb c 0) holds
    (first (both operator c) (so && holds) (so || holds))

-- under operator 1 once one does not hold, under operator 2 once one does
unfoldable pub settled : ℕ → Bool → Bool
settled operator so = first (eqb operator 1) (not so) (first (eqb operator 2) so false)
