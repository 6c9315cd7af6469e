-- The answer is what the text begins with, and has room.
-- Assumes nothing.
use mathlib.Core.Path.{ap, ◌∙◌}
use Prim.Native.Nat.{ℕ, ◌+◌}
use native.Mathlib.Omega.{arith}
use lib.Seq.{sets}
use Rattle.printer.proofs.Answers.{begins, inside}
use Rattle.session.specs.Dialogue.{kept_of}
use Rattle.session.proofs.dialogue.Told.{ending_most}
use Rattle.session.proofs.dialogue.byte.finish.Goals as goal

pub slice_bounds-text-end : goal.slice_bounds-text-end
slice_bounds-text-end c = inside c.respond-count.ensures.print

pub overflow_add-result : goal.overflow_add-result
overflow_add-result c =
    let r = c.respond-count in
    let a = c.args in
    let most = ending_most (kept_of a.unit.now a.line.now) in
    omega (arith, r.ensures.print.counted, most)

pub returns : goal.returns
returns c =
    let r = c.respond-count in
    let a = c.args in
    record {
      left = r.ensures.left;
      stored = c.put.ensures ∙ ap (sets a.room.now a.printed) (begins r.ensures.print);
      count = ap (λ (n : ℕ). a.printed + n) r.ensures.print.counted;
      short = omega (arith, ending_most (kept_of a.unit.now a.line.now));
    }
