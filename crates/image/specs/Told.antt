-- What C is told of an image that is read or written: 0, or the refusal's number below zero.
-- Assumes nothing.
use Rattle.std.specs.Prelude.{ℤ, pos, neg_ℤ, Result, ⊤}
use Rattle.records.specs.Walk.{outcome_number}
use Rattle.records.specs.declared.types.Refusal.{Refusal}

-- 0, or below zero the number by which "Readings refuse"
unfoldable pub told : Result ⊤ Refusal → ℤ
told r = neg_ℤ (pos (outcome_number r))
