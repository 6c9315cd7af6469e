-- The number of an answer.
-- Assumes nothing.
use Prim.Native.Nat.{ℕ}
use mathlib.Core.List.{List}
use mathlib.Core.Path.{◌≡◌, ap, ◌∙◌}
use lib.IntN.{ℤ}
use Rattle.why.specs.Answer.{number, Explained}
use Rattle.std.specs.Prelude.{Result}
use Rattle.why.specs.declared.types.Untold.{Untold}
use Rattle.firmware.specs.Told.{ToldWhy}

pub told_why : {unit : List ℕ} {output : ℕ} {trail trail' : List ℕ} {r : Result ℕ Untold} {z : ℤ} → Explained unit output trail trail' r → z ≡ number r → ToldWhy unit output trail trail' z
told_why e is = record { answer = is ∙ ap number e.answer; bytes = e.bytes }
