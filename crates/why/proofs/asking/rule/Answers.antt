-- The first rule that applies.
-- Assumes nothing.
use Rattle.numbers.specs.Choice.{first}
use Rattle.output.specs.Output.{rule}
use Rattle.why.proofs.asking.rule.Goals as goal

pub returns-then-turned_off : goal.returns-then-turned_off
unfolding rule first
returns-then-turned_off c = rw (← c.turned_off.ensures, c.if-turned_off.true)

pub returns-then-failed : goal.returns-then-failed
unfolding rule first
returns-then-failed c = rw (← c.turned_off.ensures, c.if-turned_off.false, ← c.failed.ensures, c.if-failed.true)

pub returns-then-turned_on : goal.returns-then-turned_on
unfolding rule first
returns-then-turned_on c = rw (← c.turned_off.ensures, c.if-turned_off.false, ← c.failed.ensures, c.if-failed.false, ← c.turned_on.ensures, c.if-turned_on.true)

pub returns-then-failed-2 : goal.returns-then-failed-2
unfolding rule first
returns-then-failed-2 c = rw (← c.turned_off.ensures, c.if-turned_off.false, ← c.failed.ensures, c.if-failed.false, ← c.turned_on.ensures, c.if-turned_on.false, ← c.failed-2.ensures, c.if-failed-2.true)

pub returns-then-failed-3 : goal.returns-then-failed-3
unfolding rule first
returns-then-failed-3 c = rw (← c.turned_off.ensures, c.if-turned_off.false, ← c.failed.ensures, c.if-failed.false, ← c.turned_on.ensures, c.if-turned_on.false, ← c.failed-2.ensures, c.if-failed-2.false, ← c.failed-3.ensures, c.if-failed-3.true)

pub returns-then-absent : goal.returns-then-absent
unfolding rule first
returns-then-absent c = rw (← c.turned_off.ensures, c.if-turned_off.false, ← c.failed.ensures, c.if-failed.false, ← c.turned_on.ensures, c.if-turned_on.false, ← c.failed-2.ensures, c.if-failed-2.false, ← c.failed-3.ensures, c.if-failed-3.false, ← c.absent.ensures, c.if-absent.true)

pub returns : goal.returns
unfolding rule first
returns c = rw (← c.turned_off.ensures, c.if-turned_off.false, ← c.failed.ensures, c.if-failed.false, ← c.turned_on.ensures, c.if-turned_on.false, ← c.failed-2.ensures, c.if-failed-2.false, ← c.failed-3.ensures, c.if-failed-3.false, ← c.absent.ensures, c.if-absent.false)
