-- Each return by the tests that led there.
-- Assumes nothing.
use Rattle.numbers.specs.Choice.{first}
use Rattle.numbers.proofs.Tests.{tests}
use Rattle.spool.specs.Interlock.{asks, waits, sent_1, coil_1, coil_2}
use Rattle.spool.proofs.Rests.{rests, rests_not}
use Rattle.spool.proofs.interlock.first_sent.Goals as goal

pub returns-then-command-le0 : goal.returns-then-command-le0
unfolding asks waits sent_1 coil_1 coil_2 first
returns-then-command-le0 c = search (tests, rests, rests_not)

pub returns-then-sent-ne0 : goal.returns-then-sent-ne0
unfolding asks waits sent_1 coil_1 coil_2 first
returns-then-sent-ne0 c = search (tests, rests, rests_not)

pub returns : goal.returns
unfolding asks waits sent_1 coil_1 coil_2 first
returns c = search (tests, rests, rests_not)
