-- `entries::ranges::judge_range` meets its contract: a whole range refuses nothing (`KeyLaws`).
-- Assumes nothing.
use Rattle.entries.proofs.KeyLaws.{all_good}
use Rattle.entries.proofs.ranges.judge_range.Goals as goal

pub returns-in-Long : goal.returns-in-Long
returns-in-Long c = all_good _ _ c.in-Long.is
