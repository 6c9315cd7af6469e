-- The walk's invariant: no point before k ended the table, and none was reached. The measure is what is left of the points.
use mathlib.Core.Path.{◌≡◌, ◌∙◌}
use native.Mathlib.Omega.{arith}
use borrow.Author.Tests.{eq-eqb, ne_eqb}
use mir.Syntax.{w16}
use mir.Val.{to_z, of_z}
use Rattle.table.specs.Table.{curve, unused}
use Rattle.numbers.proofs.ExactLaws.{back, told, answer}
use Rattle.table.proofs.TableLaws.{start, on, at_first, at_unused, at_end, at_reached, reached}
use Rattle.table.proofs.curved.Goals as goal

pub returns-then-v-at : goal.returns-then-v-at
returns-then-v-at c =
    let a = c.args in
    let v = to_z w16 (of_z w16 a.v) in
    answer (curve a.response.now a.x.now a.y.now) c.ranges.v (back c.at-then-v-at.type_inv c.at-then-v-at.ensures)
    (at_first a.response.now a.x.now a.y.now v (reached a.x.now v 0 c.at.type_inv c.at.ensures c.if-v-at.true))

pub loop-k-init : goal.loop-k-init
loop-k-init c =
    let a = c.args in
    let v = to_z w16 (of_z w16 a.v) in
    start a.response.now a.x.now v (reached a.x.now v 0 c.at.type_inv c.at.ensures c.if-v-at.false)

pub overflow_sub-k : goal.overflow_sub-k
overflow_sub-k c = c.loop-k.invariant.from

pub returns-then-word_at-eq0 : goal.returns-then-word_at-eq0
unfolding unused
returns-then-word_at-eq0 c =
    let a = c.args in
    answer (curve a.response.now a.x.now a.y.now) c.ranges.v (back c.at-then-word_at-eq0.type_inv c.at-then-word_at-eq0.ensures)
    (at_unused a.response.now a.x.now (to_z w16 (of_z w16 a.v)) c.loop-k.invariant a.y.now (omega arith)
    (eq-eqb _ _ (told c.word_at.ensures c.if-word_at-eq0.true)))

pub piece-requires : goal.piece-requires
piece-requires c = c.loop-k.invariant.from

pub returns-then-v-at-2 : goal.returns-then-v-at-2
unfolding unused
returns-then-v-at-2 c =
    let a = c.args in
    let v = to_z w16 (of_z w16 a.v) in
    answer (curve a.response.now a.x.now a.y.now) c.ranges.v (back c.piece.type_inv c.piece.ensures)
    (at_reached a.response.now a.x.now v c.loop-k.invariant a.y.now (omega arith)
    (ne_eqb _ _ (λ e. c.if-word_at-eq0.false (c.word_at.ensures ∙ e)))
    (reached a.x.now v c.loop-k.k c.at-in-loop-k.type_inv c.at-in-loop-k.ensures c.if-v-at-2.true))

pub loop-k-preserved : goal.loop-k-preserved
unfolding unused
loop-k-preserved c =
    let a = c.args in
    let v = to_z w16 (of_z w16 a.v) in
    on a.response.now a.x.now v c.loop-k.invariant (omega arith)
    (ne_eqb _ _ (λ e. c.if-word_at-eq0.false (c.word_at.ensures ∙ e)))
    (reached a.x.now v c.loop-k.k c.at-in-loop-k.type_inv c.at-in-loop-k.ensures c.if-v-at-2.false)

pub returns : goal.returns
returns c =
    let a = c.args in
    let all : c.loop-k.k ≡ 11 = omega (arith, c.loop-k.invariant.to) in
    answer (curve a.response.now a.x.now a.y.now) c.ranges.v (back c.at-2.type_inv c.at-2.ensures)
    (rw all at (at_end a.response.now a.x.now (to_z w16 (of_z w16 a.v)) c.loop-k.invariant a.y.now (omega arith)))
