-- `judging::over` meets its contract: what the parts find joins to the judgement (`JudgeLaws`).
-- Assumes nothing.
use borrow.Author.Rules.{sfits_of}
use Rattle.entries.proofs.judging.JudgeLaws.{up_loose, up_strict}
use Rattle.entries.specs.Judge.{past_upper}
use Rattle.entries.proofs.judging.over.Goals as goal

pub returns-in-Free : goal.returns-in-Free
unfolding past_upper
returns-in-Free c = rw c.in-Free.is

pub returns-in-Loose : goal.returns-in-Loose
returns-in-Loose c =
    up_loose _ _ _ _ _ _ c.word_at.ensures c.signed.ensures (sfits_of c.signed.type_inv) c.ranges.v c.in-Loose.is

pub returns-in-Strict : goal.returns-in-Strict
returns-in-Strict c =
    up_strict _ _ _ _ _ _ c.word_at-in-Strict.ensures c.signed-in-Strict.ensures (sfits_of c.signed-in-Strict.type_inv) c.ranges.v c.in-Strict.is
