-- What a row stands for: the entries of an index from its first to its last sub, each with the range of its role.
-- Assumes nothing.
use Rattle.std.specs.Prelude.{ℕ, zero, suc, ◌-◌, ◌%◌, List, [], ◌∷◌, eqb, Option, Some, None}
use Rattle.numbers.specs.Choice.{first}
use Rattle.roles.specs.Roles.{ranged}
use Rattle.roles.specs.declared.types.Role.{Role}
use Rattle.roles.specs.declared.types.Role.TheVariants as role
use Rattle.records.specs.Layout.{Listed}
use Rattle.records.specs.declared.rows.Row.{Row}
use Rattle.records.specs.declared.rows.Values.{Values}
use Rattle.records.specs.declared.rows.Values.TheVariants.{Each, Condition}

-- "condition: source, number, source, number, comparison"
unfoldable pub value_at : Values → ℕ → Role
value_at (Each role) sub = role
value_at Condition sub = first (eqb sub 5) role.Comparison (first (eqb (sub % 2) 1) role.Source role.Number)

unfoldable pub role_at : Row → ℕ → Role
unfolding value_at
role_at row sub = value_at row.holds sub

-- the greatest value of a byte that begins at 0: "number u8 0..15"
unfoldable pub greatest : Role → Option ℕ
greatest role.Axis = Some 0
greatest role.Switch = Some 1
greatest role.Response = Some 2
greatest role.Digits = Some 3
greatest role.Operator = Some 4
greatest role.Comparison = Some 5
greatest role.Source = Some 6
greatest role.Number = Some 15
greatest other = None

unfoldable pub entry_at : Row → ℕ → Listed
entry_at row sub = record { index = row.index; sub = sub; range = ranged (role_at row sub) }

-- the entries of a row from a sub on, so many
unfoldable pub row_from : Row → ℕ → ℕ → List Listed
row_from row sub zero = []
row_from row sub (suc n) = entry_at row sub ∷ row_from row (suc sub) n

unfoldable pub row_of : Row → List Listed
row_of row = row_from row row.first (suc row.last - row.first)
