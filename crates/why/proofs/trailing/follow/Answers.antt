-- What is left of the trail comes to the whole (`Walks`).
-- Assumes nothing.
use Prim.Native.Nat.{◌+◌}
use mathlib.Core.Path.{refl, sym, ◌∙◌}
use native.Mathlib.Omega.{arith}
use Rattle.why.proofs.Walks.{out, ends, last, onward, followed}
use Rattle.why.proofs.Places.{a_row, no_row}
use Rattle.why.proofs.trailing.follow.Goals as goal

pub returns-in-Ends : goal.returns-in-Ends
returns-in-Ends c =
    let unit = c.args.unit.now in
    let l = c.loop-i in
    followed unit c.args.first _ c.args.trail.now _ _ l.i _ c.requires.0 c.put.ensures
    (ends unit _ l.row l.i _ l.trail l.invariant c.loop-i-test.true _ (sym c.next-next.ensures ∙ c.in-Ends.is)) refl

pub returns-in_default : goal.returns-in_default
returns-in_default c =
    let unit = c.args.unit.now in
    let l = c.loop-i in
    let low = l.invariant.low in
    let none = no_row _ (sym c.in_default.is ∙ c.block_of.ensures) in
    followed unit c.args.first _ c.args.trail.now _ _ (l.i + 1) _ c.requires.0 c.put.ensures
    (last unit _ l.row l.i _ l.trail l.invariant c.loop-i-test.true _ (sym c.next-next.ensures ∙ c.in-Reads.is) _ c.put-in-Reads.ensures (omega arith)) (omega arith)

pub returns-then-row-block : goal.returns-then-row-block
returns-then-row-block c =
    let unit = c.args.unit.now in
    let l = c.loop-i in
    let w = a_row _ (sym c.in-Some.is ∙ c.block_of.ensures) in
    followed unit c.args.first _ c.args.trail.now _ _ (l.i + 1) _ c.requires.0 c.put.ensures
    (last unit _ l.row l.i _ l.trail l.invariant c.loop-i-test.true _ (sym c.next-next.ensures ∙ c.in-Reads.is) _ c.put-in-Reads.ensures (omega (arith, w.0))) (omega arith)

pub loop-i-preserved : goal.loop-i-preserved
loop-i-preserved c =
    let unit = c.args.unit.now in
    let l = c.loop-i in
    let w = a_row _ (sym c.in-Some.is ∙ c.block_of.ensures) in
    rw w.0 (onward unit _ l.row l.i _ l.trail l.invariant c.loop-i-test.true _ (sym c.next-next.ensures ∙ c.in-Reads.is) _ c.put-in-Reads.ensures (omega (arith, w.0)))

pub returns : goal.returns
returns c =
    let unit = c.args.unit.now in
    let l = c.loop-i in
    followed unit c.args.first _ c.args.trail.now _ _ 16 _ c.requires.0 c.put.ensures
    (out unit _ l.row l.i _ l.trail l.invariant c.loop-i-test.false) refl
