-- `judging::judge_chain` meets its contract: what the parts find joins to the judgement (`JudgeLaws`).
-- Assumes nothing.
use borrow.Author.Rules.{sfits_of}
use Rattle.entries.proofs.judging.JudgeLaws.{broken_up, broken_down, unbroken}
use Rattle.entries.proofs.judging.judge_chain.Goals as goal

pub returns-then-over : goal.returns-then-over
returns-then-over c =
    broken_up _ _ _ _ c.signed-v.ensures (sfits_of c.signed-v.type_inv) _ c.upper.ensures _ c.over.ensures c.if-over.true

pub returns-then-under : goal.returns-then-under
returns-then-under c =
    broken_down _ _ _ _ c.signed-v.ensures (sfits_of c.signed-v.type_inv) _ c.upper.ensures _ c.over.ensures _ c.lower.ensures _ c.under.ensures c.if-over.false c.if-under.true

pub returns : goal.returns
returns c =
    unbroken _ _ _ _ c.signed-v.ensures (sfits_of c.signed-v.type_inv) _ c.upper.ensures _ c.over.ensures _ c.lower.ensures _ c.under.ensures c.if-over.false c.if-under.false
