-- `judging::judge` meets its contract: what the parts find joins to the judgement (`JudgeLaws`).
-- Assumes nothing.
use mathlib.Core.Path.{ap, ◌∙◌}
use Rattle.std.specs.Prelude.{Ok, Err}
use Rattle.std.proofs.lemmas.Result.{err_from_is_err_and}
use Rattle.entries.proofs.judging.JudgeLaws.{by_own}
use Rattle.entries.proofs.judging.judge.Goals as goal

pub returns-in_err-judge_range : goal.returns-in_err-judge_range
returns-in_err-judge_range c =
    let told = err_from_is_err_and c.from_residual.result c.from_residual.ensures.1 in
    told.1 ∙ ap Err told.2 ∙ by_own _ _ _ _ (Err _) c.role_of-role.ensures c.judge_range.ensures c.in_err-judge_range.was

pub returns : goal.returns
returns c = c.judge_chain.ensures ∙ by_own _ _ _ _ (Ok _) c.role_of-role.ensures c.judge_range.ensures c.in_ok-judge_range.was
