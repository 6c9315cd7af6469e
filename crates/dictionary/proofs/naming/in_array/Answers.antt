-- `naming::in_array` meets its contract: the short account of an index gives what the index with its sub names (`NameLaws`).
-- Assumes nothing.
use native.Mathlib.Omega.{arith}
use Rattle.dictionary.proofs.naming.NameLaws.{array_count, array_value, array_none}
use Rattle.dictionary.proofs.naming.in_array.Goals as goal

pub returns-then-sub-eq0 : goal.returns-then-sub-eq0
returns-then-sub-eq0 c = array_count _ _ _ c.if-sub-eq0.true

pub returns-then-sub-last : goal.returns-then-sub-last
returns-then-sub-last c = array_value _ _ _ (λ e. omega arith) (omega arith)

pub returns : goal.returns
returns c = array_none _ _ _ (λ e. omega arith) (omega arith)
