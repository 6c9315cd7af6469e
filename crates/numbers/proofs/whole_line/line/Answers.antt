-- The line: before and past the points by the tests; between them the weighed sum, rounded, is the definition's value.
-- Assumes nothing.
use Prim.Native.Nat.{ℕ, ◌<◌}
use lib.IntN.{ℤ, pos, ◌+ℤ◌}
use mir.Syntax.{w16}
use mir.Val.{SFits, to_z, of_z}
use mathlib.Core.Bool.{true}
use mathlib.Core.Path.{◌≡◌, ◌∙◌}
use native.Mathlib.Omega.{arith}
use borrow.Author.Rules.{rules}
use mir.Facts.{to_z-of_z}
use Rattle.numbers.specs.Choice.{first}
use Rattle.numbers.specs.Order.{below}
use Rattle.numbers.specs.Line.{line_at}
use Rattle.numbers.proofs.Differences.{Diff, raised, above}
use Rattle.numbers.proofs.SignedLaws.{from_lowest}
use Rattle.numbers.proofs.Tests.{tests, le_no16}
use Rattle.numbers.proofs.whole_line.Weighing.{rounds}
use Rattle.numbers.proofs.whole_line.line.Goals as goal

-- what a call of raise tells: its argument stood as bits
sent : {v : ℤ} {r : ℕ} → SFits w16 v → pos r ≡ to_z w16 (of_z w16 v) +ℤ pos 32768 → Diff v r 32768
sent {v} f e = raised v (rw (to_z-of_z f) at e)

-- so the counted numbers are in order too
in_order : {v w : ℤ} {m n : ℕ} → Diff v m 32768 → Diff w n 32768 → below v w ≡ true → m < n
in_order d e h = omega (arith, above d e h)

pub returns-then-x-a : goal.returns-then-x-a
unfolding line_at first
returns-then-x-a c = search tests

pub returns-then-b-x : goal.returns-then-b-x
unfolding line_at first
returns-then-b-x c =
    let p = c.args in
    let start_fits : SFits w16 p.a.x = search rules in
    rw (le_no16 p.x p.a.x c.ranges.x start_fits c.if-x-a.false) (search tests)

pub overflow_sub-t : goal.overflow_sub-t
overflow_sub-t c =
    let p = c.args in
    let start_fits : SFits w16 p.a.x = search rules in
    omega (arith, in_order (sent start_fits c.raise-start.ensures.0) (sent c.ranges.x c.raise.ensures.0) (le_no16 p.x p.a.x c.ranges.x start_fits c.if-x-a.false))

pub overflow_sub-d : goal.overflow_sub-d
overflow_sub-d c =
    let p = c.args in
    let start_fits : SFits w16 p.a.x = search rules in
    let end_fits : SFits w16 p.b.x = search rules in
    let here = sent c.ranges.x c.raise.ensures.0 in
    let s = in_order (sent start_fits c.raise-start.ensures.0) here (le_no16 p.x p.a.x c.ranges.x start_fits c.if-x-a.false) in
    let e = in_order here (sent end_fits c.raise-2.ensures.0) (le_no16 p.b.x p.x end_fits c.ranges.x c.if-b-x.false) in
    omega arith

pub weighed-requires : goal.weighed-requires
weighed-requires c =
    let p = c.args in
    let start_fits : SFits w16 p.a.x = search rules in
    let end_fits : SFits w16 p.b.x = search rules in
    let here = sent c.ranges.x c.raise.ensures.0 in
    let s = in_order (sent start_fits c.raise-start.ensures.0) here (le_no16 p.x p.a.x c.ranges.x start_fits c.if-x-a.false) in
    let e = in_order here (sent end_fits c.raise-2.ensures.0) (le_no16 p.b.x p.x end_fits c.ranges.x c.if-b-x.false) in
    (omega arith, omega arith, omega (arith, c.raise-2.ensures.1), c.raise-3.ensures.1, c.raise-4.ensures.1)

pub returns : goal.returns
unfolding line_at first
returns c =
    let p = c.args in
    let start_fits : SFits w16 p.a.x = search rules in
    let end_fits : SFits w16 p.b.x = search rules in
    let first_fits : SFits w16 p.a.y = search rules in
    let second_fits : SFits w16 p.b.y = search rules in
    let past = le_no16 p.x p.a.x c.ranges.x start_fits c.if-x-a.false in
    let before = le_no16 p.b.x p.x end_fits c.ranges.x c.if-b-x.false in
    let start = sent start_fits c.raise-start.ensures.0 in
    let here = sent c.ranges.x c.raise.ensures.0 in
    let end = sent end_fits c.raise-2.ensures.0 in
    let s = in_order start here past in
    let e = in_order here end before in
    rw (past, before)
    (to_z-of_z {w = w16} (search rules) ∙ c.signed.ensures ∙ from_lowest c.weighed.result c.weighed.ensures.1 ∙ c.weighed.ensures.0
    ∙ rounds start (sent first_fits c.raise-3.ensures.0) end (sent second_fits c.raise-4.ensures.0) here (omega arith) (omega arith))
