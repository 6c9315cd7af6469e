-- Three conditions gathered one after the other come to what the paper's operator makes of all three, and none after a settled one
-- matters.
-- Assumes nothing.
use Prim.Native.Nat.{ℕ}
use mathlib.Core.Bool.{Bool, true, false}
use mathlib.Core.Path.{◌≡◌, refl}
use borrow.Author.Tests.{ne_eqb}
use lib.Dec.{eqb}
use Rattle.numbers.specs.Choice.{first}
use Rattle.logic.specs.Logic.{holding}
use Rattle.logic.specs.declared.Verdict.{Verdict}
use Rattle.logic.specs.Gathering.{counts, both, gathered, settled}

-- operator 0 is always true, and is asked before
pub gathered_all : (operator : ℕ) → (operator ≡ 0 → ⊥) → (so : Bool) (x y z : Verdict) →
    gathered operator 2 (gathered operator 1 (gathered operator 0 so (counts operator x)) (counts operator y)) (counts operator z) ≡ holding operator x y z
unfolding gathered counts both holding first
gathered_all operator n so x y z = by (eqb operator 1) (eqb operator 2) (eqb operator 3) refl refl refl where
  by : (one two three : Bool) → eqb operator 1 ≡ one → eqb operator 2 ≡ two → eqb operator 3 ≡ three →
      gathered operator 2 (gathered operator 1 (gathered operator 0 so (counts operator x)) (counts operator y)) (counts operator z) ≡ holding operator x y z
  by true two three e f g = rw (ne_eqb operator 0 n, e)
  by false true three e f g = rw (ne_eqb operator 0 n, e, f)
  by false false true e f g = rw (ne_eqb operator 0 n, e, f, g)
  by false false false e f g = rw (ne_eqb operator 0 n, e, f, g)

-- what is settled stays through every condition after the first
pub stays : (operator c : ℕ) (so holds : Bool) → settled operator so ≡ true → (c ≡ 0 → ⊥) → gathered operator c so holds ≡ so
unfolding gathered both settled first
stays operator c so holds s n = by (eqb operator 1) (eqb operator 2) so refl refl s where
  by : (one two so : Bool) → eqb operator 1 ≡ one → eqb operator 2 ≡ two → settled operator so ≡ true → gathered operator c so holds ≡ so
  by true two true e f s = let h : false ≡ true = rw e at s in cc
  by true two false e f s = rw (ne_eqb c 0 n, e)
  by false true true e f s = rw (ne_eqb c 0 n, e, f)
  by false true false e f s = let h : false ≡ true = rw (e, f) at s in cc
  by false false so e f s = let h : false ≡ true = rw (e, f) at s in cc
