-- An index has one account: two that are right are equal.
-- Assumes nothing.
use Prim.Native.Nat.{ℕ}
use mathlib.Core.List.{List, [], ◌∷◌}
use mathlib.Core.Path.{◌≡◌, refl, sym, ap, ◌∙◌}
use lib.Dec.{eqb}
use Rattle.numbers.specs.Choice.{first}
use Rattle.dictionary.specs.Names.{Stretch}
use Rattle.dictionary.specs.Objects.{meant, Rows}
use Rattle.dictionary.specs.declared.objects.Object.{Object}
use Rattle.dictionary.specs.declared.objects.Object.TheVariants.{Unknown, Var, Array, Constants, Errors}

-- the account, back from the stretches that it stands for
account : List Stretch → Object
account [] = Unknown
account (s ∷ []) = first (eqb s.from 0) (Var s.slot) (Array s.slot s.to)
account (s ∷ t ∷ rest) = first (eqb s.from 0) Errors Constants

back : (o : Object) (index : ℕ) → account (meant o index) ≡ o
unfolding meant account first
back Unknown index = refl
back (Var slot) index = refl
back (Array slot last) index = refl
back Constants index = refl
back Errors index = refl

pub rows_once : {o p : Object} {index : ℕ} → Rows o index → Rows p index → o ≡ p
rows_once {o} {p} {index} a b = sym (back o index) ∙ ap account (a.are ∙ sym b.are) ∙ back p index
