-- What the parts of a judgement by the range come to.
-- Assumes nothing.
use mathlib.Core.Path.{◌≡◌, refl}
use mathlib.Core.Bool.{Bool, true, false, ◌&&◌, and-eq-true_iff}
use Prim.Native.Nat.{ℕ}
use lib.Dec.{ltb}
use lib.IntN.{ℤ}
use lib.Signed.{mag}
use borrow.Author.Tests.{ltb-true}
use mir.Syntax.{w32}
use mir.Val.{SFits, to_z, of_z}
use mir.Facts.{to_z-of_z}
use Rattle.std.specs.Prelude.{Err}
use Rattle.numbers.specs.Choice.{first}
use Rattle.dictionary.specs.declared.types.Range.{Range}
use Rattle.dictionary.proofs.Tabulate.{tabulate}
use Rattle.roles.specs.Roles.{ranged}
use Rattle.roles.specs.declared.types.Role.{Role}
use Rattle.roles.proofs.Cases.{nth, at_place}
use Rattle.entries.specs.Judge.{finite, number_of, within, in_range}
use Rattle.entries.specs.declared.types.Fault.TheVariants.{NotFinite}

-- both ends of a role's range are 32 bits wide
both_fit : (role : Role) → (ltb (mag (ranged role).low) 2147483648 && ltb (mag (ranged role).high) 2147483648) ≡ true
unfolding tabulate nth first ranged
both_fit = at_place (λ r. ltb (mag (ranged r).low) 2147483648 && ltb (mag (ranged r).high) 2147483648) (λ r. true) refl

module _ (own : Range) (role : Role) (word : ℕ) (same : own ≡ ranged role) (f : Bool) (e : f ≡ finite own.kind word) where
  fit : (ltb (mag own.low) 2147483648 ≡ true) × (ltb (mag own.high) 2147483648 ≡ true)
  fit = (and-eq-true_iff (ltb (mag own.low) 2147483648) (ltb (mag own.high) 2147483648)).0 (rw same (both_fit role))

  pub is_number : f ≡ true → (v : ℤ) → v ≡ number_of own.kind word → SFits w32 v
      → within (to_z w32 (of_z w32 v)) (to_z w32 (of_z w32 own.low)) (to_z w32 (of_z w32 own.high)) ≡ in_range (ranged role) word
  unfolding in_range first
  is_number t v n fv =
      let low : SFits w32 own.low = record { sfits = ltb-true _ _ fit.0 } in
      let high : SFits w32 own.high = record { sfits = ltb-true _ _ fit.1 } in
      rw (← same, ← e, t, to_z-of_z fv, to_z-of_z low, to_z-of_z high, n)

  pub is_no_number : f ≡ false → Err NotFinite ≡ in_range (ranged role) word
  unfolding in_range first
  is_no_number t = rw (← same, ← e, t)
