-- `naming::in_errors` meets its contract: the short account of an index gives what the index with its sub names (`NameLaws`), up to the number kept (`Sought`).
-- Assumes nothing.
use mathlib.Core.Path.{◌∙◌}
use native.Mathlib.Omega.{arith}
use Rattle.dictionary.proofs.naming.NameLaws.{errors_kept, errors_value, errors_none}
use Rattle.dictionary.proofs.naming.Sought.{past_kept, up_to_kept}
use Rattle.dictionary.specs.Names.{slot_of}
use Rattle.dictionary.proofs.naming.in_errors.Goals as goal

pub returns-then-sub-eq0 : goal.returns-then-sub-eq0
unfolding slot_of
returns-then-sub-eq0 c = errors_kept _ c.if-sub-eq0.true ∙ up_to_kept _ _ (omega (arith, c.if-sub-eq0.true))

pub returns-then-unit-sub : goal.returns-then-unit-sub
unfolding slot_of
returns-then-unit-sub c = past_kept _ _ c.if-unit-sub.true

pub returns-then-sub-le8 : goal.returns-then-sub-le8
unfolding slot_of
returns-then-sub-le8 c = errors_value _ (λ e. omega arith) (omega arith) ∙ up_to_kept _ _ (omega arith)

pub returns : goal.returns
unfolding slot_of
returns c = errors_none _ (omega arith) ∙ up_to_kept _ _ (omega arith)
