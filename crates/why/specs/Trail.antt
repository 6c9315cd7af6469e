-- "for an error the trail back to a flagged input or a division by zero"
-- Assumes nothing.
use Rattle.std.specs.Prelude.{ℕ, zero, suc, ◌+◌, ◌-◌, Bool, List, [], ◌∷◌, ltb}
use Rattle.numbers.specs.Choice.{first}
use Rattle.signals.specs.Signal.{is_error}
use Rattle.unit.specs.Entry.{byte}
use Rattle.unit.specs.Held.{maths, tables, logics, blocks}
use Rattle.math.specs.Maths.{of_math}
use Rattle.table.specs.Table.{least}
use Rattle.table.specs.Tables.{of_table}
use Rattle.why.specs.Seen.{block_of, saw}
use Rattle.why.specs.declared.types.End.{End}
use Rattle.why.specs.declared.types.End.TheVariants.{Flagged, Divided, Earlier}
use Rattle.why.specs.declared.types.Next.{Next}
use Rattle.why.specs.declared.types.Next.TheVariants.{Ends, Reads}
use Rattle.unit.specs.declared.pairs.Pair.{Pair}

-- the pair in two entries
unfoldable pub pair : List ℕ → ℕ → ℕ → ℕ → Pair
pair unit source number sub = record { source = byte unit source sub; number = byte unit number sub }

-- "4y00h, 4y01h": input i of math n
unfoldable pub math_pair : List ℕ → ℕ → ℕ → Pair
math_pair unit n i = pair unit (of_math 0x4000 n) (of_math 0x4001 n) i

-- "30z0h, 30z1h": the X of table z
unfoldable pub table_pair : List ℕ → ℕ → Pair
table_pair unit z = pair unit (of_table 0x3000 z) (of_table 0x3001 z) 0

-- "4010h is its table's number, the output that table's signal": an error of logic x is its table's
unfoldable pub logic_pair : List ℕ → ℕ → Pair
logic_pair unit x = record { source = 3; number = byte unit 0x4010 x }

-- input i of math k + 1 was in error
unfoldable pub wrong : List ℕ → ℕ → ℕ → Bool
wrong unit k i = is_error (saw unit (maths + k) (math_pair unit (k + 1) i))

-- "Of several inputs in error the lowest-numbered is followed, and a division is named only where no input is in error."
unfoldable pub lowest : List ℕ → ℕ → ℕ
lowest unit k = least (wrong unit k) 1 4

unfoldable pub math_next : List ℕ → ℕ → Next
math_next unit k = first (ltb (lowest unit k) 5) (Reads (math_pair unit (k + 1) (lowest unit k))) (Ends Divided)

-- where the error of the block at a row comes from
unfoldable pub next : List ℕ → ℕ → Next
next unit row =
    first (ltb row maths) (Ends Flagged)
    (first (ltb row tables) (math_next unit (row - maths))
    (first (ltb row logics) (Reads (table_pair unit (row - tables + 1)))
    (Reads (logic_pair unit (row - logics + 1)))))

-- the steps behind a block, and how they end
pub record Trail : Type 0 where
  pub steps : List Pair
  pub end : End

-- one step more at its front
unfoldable pub after : Pair → Trail → Trail
after p t = record { steps = p ∷ t.steps; end = t.end }

-- "Where the trail meets a signal taken from the last tick it stops there and says so": a block before this one is followed
unfoldable pub stepped : (ℕ → Trail) → ℕ → Next → Trail
stepped go row (Ends end) = record { steps = []; end = end }
stepped go row (Reads p) = first (ltb (block_of p) row) (after p (go (block_of p))) (record { steps = p ∷ []; end = Earlier })

-- rows fall from step to step, so that as many steps as there are blocks are enough
unfoldable pub follow : ℕ → List ℕ → ℕ → Trail
follow zero unit row = record { steps = []; end = Earlier }
follow (suc left) unit row = stepped (follow left unit) row (next unit row)

unfoldable pub trail : List ℕ → Pair → Trail
trail unit p = after p (follow blocks unit (block_of p))
