-- By the rule's number.
-- Assumes nothing.
use Rattle.numbers.specs.Choice.{first}
use Rattle.numbers.proofs.Tests.{tests}
use Rattle.why.specs.Answer.{decider}
use Rattle.why.proofs.asking.decider.Goals as goal

pub returns-then-rule-lt3 : goal.returns-then-rule-lt3
unfolding decider first
returns-then-rule-lt3 c = rw c.enable_of.ensures (search tests)

pub returns-then-rule-lt5 : goal.returns-then-rule-lt5
unfolding decider first
returns-then-rule-lt5 c = rw c.override_of.ensures (search tests)

pub returns : goal.returns
unfolding decider first
returns c = rw c.control_of.ensures (search tests)
