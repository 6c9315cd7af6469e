-- `naming::in_constants` meets its contract: the short account of an index gives what the index with its sub names (`NameLaws`).
-- Assumes nothing.
use native.Mathlib.Omega.{arith}
use Rattle.dictionary.proofs.naming.NameLaws.{constants_count, constants_fixed, constants_value, constants_none}
use Rattle.dictionary.specs.Names.{slot_of}
use Rattle.dictionary.proofs.naming.in_constants.Goals as goal

pub returns-then-sub-eq0 : goal.returns-then-sub-eq0
returns-then-sub-eq0 c = constants_count _ c.if-sub-eq0.true

pub returns-then-sub-lt3 : goal.returns-then-sub-lt3
unfolding slot_of
returns-then-sub-lt3 c = constants_fixed _ (λ e. omega arith) (omega arith)

pub returns-then-sub-le15 : goal.returns-then-sub-le15
unfolding slot_of
returns-then-sub-le15 c = constants_value _ (omega arith) (omega arith)

pub returns : goal.returns
returns c = constants_none _ (omega arith)
