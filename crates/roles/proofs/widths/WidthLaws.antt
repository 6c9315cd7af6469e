-- The type of a role and of a slot, and how wide it is.
-- Assumes nothing.
use mathlib.Core.Path.{◌≡◌, ap}
use Prim.Native.Nat.{ℕ, ◌≤◌}
use native.Mathlib.Omega.{arith}
use Rattle.dictionary.specs.Rows.{width}
use Rattle.dictionary.specs.declared.types.Kind.{Kind}
use Rattle.dictionary.specs.declared.types.Kind.TheVariants.{Unsigned8, Integer16, Unsigned16, Real32, Unsigned32}
use Rattle.roles.specs.Values.{range_of}
use Rattle.roles.specs.Roles.{Holding, ranged, said, holding, Told}
use Rattle.roles.specs.declared.types.Role.{Role}

-- a type has one to four bytes, and not three
pub at_least_one : (kind : Kind) → 1 ≤ width kind
unfolding width
at_least_one Unsigned8 = omega arith
at_least_one Integer16 = omega arith
at_least_one Unsigned16 = omega arith
at_least_one Real32 = omega arith
at_least_one Unsigned32 = omega arith

pub never_three : (kind : Kind) → width kind ≡ 3 → ⊥
unfolding width
never_three Unsigned8 e = omega arith
never_three Integer16 e = omega arith
never_three Unsigned16 e = omega arith
never_three Real32 e = omega arith
never_three Unsigned32 e = omega arith

pub at_most_four : (kind : Kind) → width kind ≤ 4
unfolding width
at_most_four Unsigned8 = omega arith
at_most_four Integer16 = omega arith
at_most_four Unsigned16 = omega arith
at_most_four Real32 = omega arith
at_most_four Unsigned32 = omega arith

-- a slot's type is its role's
pub kind_told : {role : Role} {slot : ℕ} → Told role slot → (ranged role).kind ≡ (range_of slot).kind
unfolding said holding
kind_told t = ap (λ (h : Holding). h.range.kind) t.holds
