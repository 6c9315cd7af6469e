-- What each role stands for: a type with its range, and a place in a chain.
-- Assumes nothing.
use Rattle.std.specs.Prelude.{ℕ, ◌+◌, ◌-◌, ◌^◌, ◌<◌, ◌≤◌, ◌≡◌, Bool, true, false, pos, negsuc}
use Rattle.dictionary.specs.Rows.{u8, u16, u32, i16, i16_between, real32, D, source, number}
use Rattle.dictionary.specs.declared.types.Range.{Range}
use Rattle.roles.specs.Chains.{upper_of, lower_of}
use Rattle.roles.specs.Values.{range_of}
use Rattle.roles.specs.declared.types.Link.{Link}
use Rattle.roles.specs.declared.types.Link.TheVariants.{Free, Loose, Strict}
use Rattle.roles.specs.declared.types.Role.{Role}
use Rattle.roles.specs.declared.types.Role.TheVariants as role

-- the ranges that recur in the table's rows; a role that is not listed has the whole range of INTEGER16
unfoldable pub ranged : Role → Range
ranged role.Axis = (u8 0 0 0).range
ranged role.Switch = (u8 0 1 0).range
ranged role.Response = (u8 0 2 0).range
ranged role.Digits = D.range
ranged role.Operator = (u8 0 4 0).range
ranged role.Comparison = (u8 0 5 0).range
ranged role.Source = source.range
ranged role.Number = number.range
ranged role.Table = (u8 1 6 0).range
ranged role.Byte = (u8 0 255 0).range
ranged role.Real = (real32 0).range
ranged role.Time = (u16 0 60000 0).range
ranged role.Positive = (i16_between (pos 0) (pos 32767) 0).range
ranged role.Gain = (i16_between (negsuc 99) (pos 100) 0).range
ranged role.Current = (i16_between (pos 0) (pos 2500) 0).range
ranged role.FvLow = (i16_between (pos 0) (pos 2500) 0).range
ranged role.FvHigh = (i16_between (pos 0) (pos 2500) 0).range
ranged role.Long = (u32 0).range
ranged other = (i16 0).range

-- the neighbour above: of the points but the last one slot on, of a pair's lower end by the rows between the two, of 7148h the slot of 7120h
unfoldable pub upper_by : Role → ℕ → Link
upper_by role.FirstX slot = Loose (slot + 1)
upper_by role.InnerX slot = Loose (slot + 1)
upper_by role.EcLow slot = Strict (slot + 12)
upper_by role.MathLow slot = Strict (slot + 4)
upper_by role.PvLow slot = Strict (slot + 8)
upper_by role.FvLow slot = Strict (slot + 8)
upper_by role.LineLow slot = Strict (slot + 8)
upper_by role.LineHigh slot = Loose (slot + 12)
upper_by role.SpanLow slot = Loose (slot - 16)
upper_by other slot = Free

-- the neighbour below
unfoldable pub lower_by : Role → ℕ → Link
lower_by role.InnerX slot = Loose (slot - 1)
lower_by role.LastX slot = Loose (slot - 1)
lower_by role.EcHigh slot = Strict (slot - 12)
lower_by role.MathHigh slot = Strict (slot - 4)
lower_by role.PvHigh slot = Strict (slot - 8)
lower_by role.FvHigh slot = Strict (slot - 8)
lower_by role.LineLow slot = Loose (slot + 16)
lower_by role.LineHigh slot = Strict (slot - 8)
lower_by role.SpanHigh slot = Loose (slot - 12)
lower_by other slot = Free

-- what is held at a slot, by a role and by the table
pub record Holding : Type 0 where
  pub range : Range
  pub upper : Link
  pub lower : Link

unfoldable pub said : Role → ℕ → Holding
said role slot = record { range = ranged role; upper = upper_by role slot; lower = lower_by role slot }

unfoldable pub holding : ℕ → Holding
holding slot = record { range = range_of slot; upper = upper_of slot; lower = lower_of slot }

-- the roles that no chain has: those of one, two or four bytes, and INTEGER16 with a range of its own but for the ends of an output's line
unfoldable pub alone : Role → Bool
alone role.Axis = true
alone role.Switch = true
alone role.Response = true
alone role.Digits = true
alone role.Operator = true
alone role.Comparison = true
alone role.Source = true
alone role.Number = true
alone role.Table = true
alone role.Byte = true
alone role.Real = true
alone role.Time = true
alone role.Positive = true
alone role.Gain = true
alone role.Current = true
alone other = false

-- a role is a slot's; and one that may have neighbours is far from both ends of the numbers
pub record Told (role : Role) (slot : ℕ) : Type 0 where
  pub holds : said role slot ≡ holding slot
  pub near : alone role ≡ false → (16 ≤ slot) × (slot < 2 ^ 16)
