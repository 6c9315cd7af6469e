-- `entries::ranges::judge_own` meets its contract: what the parts find joins to the judgement (`RangeLaws`).
-- Assumes nothing.
use mathlib.Core.Path.{◌∙◌}
use borrow.Author.Rules.{sfits_of}
use Rattle.entries.proofs.RangeLaws.{is_number, is_no_number}
use Rattle.entries.proofs.ranges.judge_own.Goals as goal

pub returns-then-is_finite : goal.returns-then-is_finite
returns-then-is_finite c =
    c.judge_number.ensures
    ∙ is_number _ _ _ c.range_of-range.ensures _ c.is_finite.ensures c.if-is_finite.true _
    c.number.ensures (sfits_of c.number.type_inv)

pub returns : goal.returns
returns c = is_no_number _ _ _ c.range_of-range.ensures _ c.is_finite.ensures c.if-is_finite.false
