-- `entries::ranges::is_finite` meets its contract: what the parts find joins to the judgement (`JudgeLaws`).
-- Assumes nothing.
use Rattle.entries.specs.Judge.{finite}
use Rattle.entries.proofs.ranges.is_finite.Goals as goal

pub returns-in-Unsigned8 : goal.returns-in-Unsigned8
unfolding finite
returns-in-Unsigned8 c = rw c.in-Unsigned8.is

pub returns-in-Unsigned16 : goal.returns-in-Unsigned16
unfolding finite
returns-in-Unsigned16 c = rw c.in-Unsigned16.is

pub returns-in-Integer16 : goal.returns-in-Integer16
unfolding finite
returns-in-Integer16 c = rw c.in-Integer16.is

pub returns-in-Real32 : goal.returns-in-Real32
unfolding finite
returns-in-Real32 c = rw c.in-Real32.is

pub returns-in-Unsigned32 : goal.returns-in-Unsigned32
unfolding finite
returns-in-Unsigned32 c = rw c.in-Unsigned32.is
