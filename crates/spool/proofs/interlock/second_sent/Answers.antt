-- Each return by the tests that led there.
-- Assumes nothing.
use mathlib.Core.Bool.{true, false, and-false}
use mathlib.Core.Path.{◌≡◌}
use lib.IntN.{pos}
use lib.ListN.{get_or}
use Rattle.numbers.specs.Order.{below}
use Rattle.numbers.specs.Choice.{first}
use Rattle.numbers.proofs.Tests.{tests}
use Rattle.spool.specs.Interlock.{rested, asks, waits, loses, sent_2, coil_1, coil_2}
use Rattle.spool.proofs.Rests.{rests, rests_not}
use Rattle.spool.proofs.interlock.second_sent.Goals as goal

pub returns-then-command-le0 : goal.returns-then-command-le0
unfolding asks waits loses sent_2 coil_1 coil_2 first
returns-then-command-le0 c = search (tests, rests, rests_not, and-false)

pub returns-then-sent-ne0 : goal.returns-then-sent-ne0
unfolding asks waits loses sent_2 coil_1 coil_2 first
returns-then-sent-ne0 c = search (tests, rests, rests_not)

pub returns-then-commands-le0 : goal.returns-then-commands-le0
unfolding asks waits loses sent_2 coil_1 coil_2 first
returns-then-commands-le0 c = search (tests, rests, rests_not)

pub returns-then-sent-eq0 : goal.returns-then-sent-eq0
unfolding asks waits loses sent_2 coil_1 coil_2 first
returns-then-sent-eq0 c = search (tests, rests, rests_not)

pub returns : goal.returns
unfolding asks waits loses sent_2 coil_1 coil_2 first
returns c =
    let a = c.args in
    let asking : below (pos 0) (get_or a.commands 1 (pos 0)) ≡ true = search tests in
    let free : rested (get_or a.sent 0 (pos 0)) ≡ true = search (tests, rests) in
    let going : rested (get_or a.sent 1 (pos 0)) ≡ false = search (tests, rests_not) in
    rw (asking, free, going, and-false) (search tests)
