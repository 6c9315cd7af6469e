-- The digits of a number, from the last place to the first.
-- Assumes nothing.
use mathlib.Core.Path.{refl, sym, ◌∙◌}
use native.Mathlib.Omega.{arith}
use lib.ListN.{length-set}
use Rattle.printer.specs.Printing.{digits}
use Rattle.printer.proofs.answer_lines.Places.{length_digits, width_range, last_place, no_place}
use Rattle.printer.proofs.answer_lines.put.put_digits.Goals as goal

pub loop-place-init : goal.loop-place-init
unfolding digits
loop-place-init c = (refl, rw c.width_of-count.ensures)

pub overflow_add-out-in-loop-place : goal.overflow_add-out-in-loop-place
overflow_add-out-in-loop-place c = omega (arith, width_range c.args.n)

pub bounds-out-at : goal.bounds-out-at
bounds-out-at c = omega (arith, width_range c.args.n)

pub loop-place-preserved : goal.loop-place-preserved
loop-place-preserved c =
    let m = c.loop-place in
    (simp length-set m.invariant.0, last_place m.out c.args.at m.place m.m (omega arith) ∙ m.invariant.1)

pub overflow_add-result : goal.overflow_add-result
overflow_add-result c = omega (arith, width_range c.args.n, c.width_of-count.ensures)

pub shape_of-out : goal.shape_of-out
shape_of-out c = c.loop-place.invariant.0

pub returns : goal.returns
returns c =
    let m = c.loop-place in
    let s = c.args in
    record {
      stored = sym (no_place m.out s.at m.place m.m (omega arith)) ∙ m.invariant.1;
      place = omega (arith, length_digits s.n, c.width_of-count.ensures);
    }
