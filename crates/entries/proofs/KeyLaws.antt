-- The whole range of INTEGER16 holds every word, and UNSIGNED32 any.
-- Assumes nothing.
use mathlib.Core.Path.{◌≡◌, refl, ap, ◌∙◌}
use mathlib.Core.Bool.{Bool, true, false}
use mathlib.Core.List.{List, [], ◌∷◌}
use mathlib.Core.Logic.{inl, inr}
use Prim.Native.Nat.{ℕ, zero, suc, ◌-◌, ◌%◌, ◌<◌, ◌≤◌}
use native.Mathlib.Omega.{arith}
use lib.Dec.{ltb}
use lib.IntN.{pos, negsuc, neg_ℤ}
use lib.Signed.{lt_z}
use borrow.Author.Tests.{le-ltb, ltb-true, ltb-false}
use Rattle.std.specs.Prelude.{Ok}
use Rattle.numbers.specs.Choice.{first}
use Rattle.numbers.specs.Order.{below}
use Rattle.numbers.specs.Signed.{twos, signed16}
use Rattle.dictionary.specs.Rows.{i16}
use Rattle.roles.specs.Roles.{ranged}
use Rattle.roles.specs.declared.types.Role.{Role}
use Rattle.roles.specs.declared.types.Role.TheVariants.{Whole, FirstX, InnerX, LastX, EcLow, EcHigh, MathLow, MathHigh, PvLow, PvHigh, LineLow, LineHigh, SpanLow, SpanHigh, Long}
use Rattle.roles.proofs.Cases.{one_of, named}
use Rattle.entries.specs.Judge.{finite, number_of, within, in_range}

twos_fits : (p : ℕ) → p < 65536 → (below (pos 32767) (twos p) ≡ false) × (below (twos p) (negsuc 32767) ≡ false)
unfolding twos below first
twos_fits p h = go (ltb p 32768) refl
  where
    minus : (n : ℕ) → 0 < n → n ≤ 32768 → (lt_z (pos 32767) (neg_ℤ (pos n)) ≡ false) × (lt_z (neg_ℤ (pos n)) (negsuc 32767) ≡ false)
    minus zero l k = absurd (omega arith)
    minus (suc n) l k = (refl, le-ltb 32767 n (omega arith))

    go : (b : Bool) → ltb p 32768 ≡ b → (lt_z (pos 32767) (first b (pos p) (neg_ℤ (pos (65536 - p)))) ≡ false) × (lt_z (first b (pos p) (neg_ℤ (pos (65536 - p)))) (negsuc 32767) ≡ false)
    go true e = let l = ltb-true p 32768 e in (le-ltb 32767 p (omega arith), refl)
    go false e = let l = ltb-false p 32768 e in minus (65536 - p) (omega arith) (omega arith)

pub whole_good : (word : ℕ) → Ok tt ≡ in_range (i16 0).range word
unfolding in_range within finite number_of signed16 below first
whole_good word = let fits = twos_fits (word % 65536) (omega arith) in rw (fits.0, fits.1)

-- the roles that have it
abbrev wholes : List Role
wholes = Whole ∷ FirstX ∷ InnerX ∷ LastX ∷ EcLow ∷ EcHigh ∷ MathLow ∷ MathHigh ∷ PvLow ∷ PvHigh ∷ LineLow ∷ LineHigh ∷ SpanLow ∷ SpanHigh ∷ []

pub all_good : (role : Role) (word : ℕ) → one_of role (Long ∷ wholes) → Ok tt ≡ in_range (ranged role) word
unfolding in_range within finite number_of ranged below first
all_good role word (inl i) = rw i
all_good role word (inr i) = whole_good word ∙ ap (λ range. in_range range word) (named ranged (i16 0).range wholes i refl)
