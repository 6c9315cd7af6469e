-- `entries::ranges::judge_number` meets its contract: what the parts find joins to the judgement (`JudgeLaws`).
-- Assumes nothing.
use mir.Syntax.{w32}
use Rattle.entries.specs.Judge.{within}
use Rattle.numbers.proofs.Tests.{tests, lt_yes, lt_no}
use Rattle.numbers.specs.Choice.{first}
use Rattle.entries.proofs.ranges.judge_number.Goals as goal

pub returns-then-high-v : goal.returns-then-high-v
unfolding within first
returns-then-high-v c = search (tests, lt_yes w32, lt_no w32)

pub returns-then-v-low : goal.returns-then-v-low
unfolding within first
returns-then-v-low c = search (tests, lt_yes w32, lt_no w32)

pub returns : goal.returns
unfolding within first
returns c = search (tests, lt_yes w32, lt_no w32)
