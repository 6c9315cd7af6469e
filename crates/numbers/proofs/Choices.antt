-- Laws of a choice by one test.
-- Assumes nothing.
use mathlib.Core.Bool.{Bool, true, false, not}
use mathlib.Core.Path.{◌≡◌, refl}
use Rattle.numbers.specs.Choice.{first}

-- a choice lies where both its answers lie
pub chosen : {A : Type 0} (P : A → Type 0) (test : Bool) (x y : A) → (test ≡ true → P x) → (test ≡ false → P y) → P (first test x y)
unfolding first
chosen P true x y p q = p refl
chosen P false x y p q = q refl

-- the same answer either way
pub either : {A : Type 0} (test : Bool) (x : A) → first test x x ≡ x
unfolding first
either true x = refl
either false x = refl

-- the opposite of the test
pub opposite : (test : Bool) → first test false true ≡ not test
unfolding first
opposite true = refl
opposite false = refl
