-- Test by test.
-- Assumes nothing.
use Prim.Native.Nat.{◌+◌, ◌-◌}
use native.Mathlib.Omega.{arith}
use borrow.Author.Tests.{eq-eqb, ne_eqb, lt-ltb, le-ltb}
use Rattle.numbers.specs.Choice.{first}
use Rattle.why.specs.Seen.{among, placed}
use Rattle.why.proofs.seeing.among.Goals as goal

pub returns-then-n-eq0 : goal.returns-then-n-eq0
unfolding among placed first
returns-then-n-eq0 c = rw (eq-eqb _ 0 c.if-n-eq0.true)

pub returns-then-count-n : goal.returns-then-count-n
unfolding among placed first
returns-then-count-n c = rw (ne_eqb _ 0 c.if-n-eq0.false, lt-ltb _ _ c.if-count-n.true)

pub returns : goal.returns
unfolding among placed first
returns c = rw (ne_eqb _ 0 c.if-n-eq0.false, le-ltb _ _ c.if-count-n.false, lt-ltb (c.args.start + c.args.number - 1) 16 (omega arith))
