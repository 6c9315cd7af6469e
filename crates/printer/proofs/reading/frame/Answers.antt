-- Sixteen digits, two a turn.
-- Assumes nothing.
use mathlib.Core.Path.{refl, sym, ◌∙◌}
use native.Mathlib.Omega.{arith}
use lib.ListN.{take, length-set}
use Rattle.printer.specs.Reading.{unknown, frame_of}
use Rattle.printer.proofs.Hexes.{frame_start, frame_long, frame_done, high_bad, low_bad, frame_step, nibble_small}
use Rattle.printer.proofs.reading.frame.Goals as goal

pub returns-then-digits-ne16 : goal.returns-then-digits-ne16
unfolding unknown
returns-then-digits-ne16 c = sym (frame_long c.args.digits.now c.if-digits-ne16.true)

pub loop-k-init : goal.loop-k-init
loop-k-init c = (refl, frame_start c.args.digits.now c.if-digits-ne16.false)

pub returns-in_err-high : goal.returns-in_err-high
unfolding unknown
returns-in_err-high c =
    let m = c.loop-k in
    let d = c.args.digits.now in
    c.from_residual.ensures ∙ sym (m.invariant.1 ∙ high_bad d m.k (omega arith) (take m.k m.bytes) (sym c.nibble.ensures ∙ c.in_err-high.was))

pub returns-in_err-low : goal.returns-in_err-low
unfolding unknown
returns-in_err-low c =
    let m = c.loop-k in
    let d = c.args.digits.now in
    c.from_residual-in_err-low.ensures ∙ sym (m.invariant.1 ∙ low_bad d m.k (omega arith) (take m.k m.bytes) (sym c.nibble-in-loop-k.ensures ∙ c.in_err-low.was))

pub overflow_mul-bytes : goal.overflow_mul-bytes
overflow_mul-bytes c = omega (arith, nibble_small _ _ (sym c.nibble.ensures ∙ c.in_ok-high.was))

pub overflow_add-bytes : goal.overflow_add-bytes
overflow_add-bytes c = omega (arith, nibble_small _ _ (sym c.nibble.ensures ∙ c.in_ok-high.was), nibble_small _ _ (sym c.nibble-in-loop-k.ensures ∙ c.in_ok-low.was))

pub loop-k-preserved : goal.loop-k-preserved
loop-k-preserved c =
    let m = c.loop-k in
    let d = c.args.digits.now in (
      simp length-set m.invariant.0,
      m.invariant.1 ∙ frame_step d m.k (omega arith) m.bytes _ _ (omega arith) (sym c.nibble.ensures ∙ c.in_ok-high.was) (sym c.nibble-in-loop-k.ensures ∙ c.in_ok-low.was),
    )

pub returns : goal.returns
unfolding frame_of
returns c =
    let m = c.loop-k in
    sym (m.invariant.1 ∙ frame_done c.args.digits.now m.bytes m.k (omega arith) (omega arith))
