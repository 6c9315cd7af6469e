-- By each test of the count.
-- Assumes nothing.
use native.Mathlib.Omega.{arith}
use borrow.Author.Tests.{eq-eqb, ne_eqb, lt-ltb, le-ltb}
use Rattle.numbers.specs.Choice.{first}
use Rattle.dictionary.specs.Unit.{ramp_count_at}
use Rattle.output.specs.Output.{unchanged, goes_on_counting, counted}
use Rattle.output.proofs.ramps.ReadLaws.{count_is}
use borrow.Author.Rules.{rules}
use Rattle.output.proofs.ramps.count_on.Goals as goal

pub returns-then-count-eq0 : goal.returns-then-count-eq0
unfolding counted goes_on_counting unchanged first ramp_count_at
returns-then-count-eq0 c = let a = c.args in
    (rw (count_is a.output.unit.now a.output.k, eq-eqb _ 0 c.if-count-eq0.true), omega arith)

pub returns-then-from-count : goal.returns-then-from-count
unfolding counted goes_on_counting unchanged first ramp_count_at
returns-then-from-count c = let a = c.args in
    (rw (count_is a.output.unit.now a.output.k, ne_eqb _ 0 c.if-count-eq0.false, le-ltb _ _ (rw (c.from.ensures) at c.if-from-count.true)), omega arith)

pub is_unchanged-requires : goal.is_unchanged-requires
unfolding ramp_count_at
is_unchanged-requires c = c.if-count-eq0.false

pub returns-then-is_unchanged : goal.returns-then-is_unchanged
unfolding counted goes_on_counting unchanged first ramp_count_at
returns-then-is_unchanged c = let a = c.args in
    (rw (count_is a.output.unit.now a.output.k, ne_eqb _ 0 c.if-count-eq0.false, lt-ltb _ _ (rw (c.from.ensures) at c.if-from-count.false), ← c.is_unchanged.ensures, c.if-is_unchanged.true), omega arith)

pub returns : goal.returns
unfolding counted goes_on_counting unchanged first ramp_count_at
returns c = let a = c.args in
    (rw (count_is a.output.unit.now a.output.k, ne_eqb _ 0 c.if-count-eq0.false, lt-ltb _ _ (rw (c.from.ensures) at c.if-from-count.false), ← c.is_unchanged.ensures, c.if-is_unchanged.false), omega arith)
