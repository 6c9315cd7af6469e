-- `lookup::find_in` meets its contract: what is left of the records is searched in what is left of the bytes (`FindLaws`).
-- Assumes nothing.
use Prim.Native.Nat.{◌+◌, ◌-◌}
use native.Mathlib.Omega.{arith}
use Rattle.records.specs.Walk.{size_in}
use Rattle.records.proofs.lookup.FindLaws.{head_cut, data_cut, here, not_here, nowhere}
use Rattle.records.proofs.lookup.find_in.Goals as goal

pub returns-then-rest-lt7 : goal.returns-then-rest-lt7
returns-then-rest-lt7 c =
    let s = c.args in let m = c.loop in head_cut (s.count - m.counter) (s.count - (m.counter + 1)) s.index s.sub m.rest.now m.invariant (omega arith) c.if-rest-lt7.true

pub returns-then-rest-end : goal.returns-then-rest-end
unfolding size_in
returns-then-rest-end c =
    let s = c.args in let m = c.loop in data_cut (s.count - m.counter) (s.count - (m.counter + 1)) s.index s.sub m.rest.now m.invariant (omega arith) c.if-rest-lt7.false c.four_at.ensures c.if-rest-end.true

pub returns-then-is_named : goal.returns-then-is_named
unfolding size_in
returns-then-is_named c =
    let s = c.args in let m = c.loop in here (s.count - m.counter) (s.count - (m.counter + 1)) s.index s.sub m.rest.now m.invariant (omega arith) c.if-rest-lt7.false c.four_at.ensures c.if-rest-end.false c.is_named.ensures c.if-is_named.true

pub loop-preserved : goal.loop-preserved
unfolding size_in
loop-preserved c =
    let s = c.args in let m = c.loop in not_here (s.count - m.counter) (s.count - (m.counter + 1)) s.index s.sub m.rest.now m.invariant (omega arith) c.if-rest-lt7.false c.four_at.ensures c.if-rest-end.false c.is_named.ensures c.if-is_named.false

pub returns : goal.returns
returns c =
    let s = c.args in let m = c.loop in nowhere (s.count - m.counter) s.index s.sub m.rest.now m.invariant (omega arith)
