-- `naming::in_var` meets its contract: the short account of an index gives what the index with its sub names (`NameLaws`).
-- Assumes nothing.
use Rattle.dictionary.proofs.naming.NameLaws.{var_value, var_none}
use Rattle.dictionary.proofs.naming.in_var.Goals as goal

pub returns-then-sub-eq0 : goal.returns-then-sub-eq0
returns-then-sub-eq0 c = var_value _ _ c.if-sub-eq0.true

pub returns : goal.returns
returns c = var_none _ _ c.if-sub-eq0.false
