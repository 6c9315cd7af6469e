-- Digits are read from left to right.
-- Assumes nothing.
use mathlib.Core.Path.{◌≡◌, sym, ◌∙◌}
use mathlib.Core.Bool.{true}
use native.Mathlib.Omega.{arith}
use lib.ListN.{get_or}
use Rattle.std.proofs.lemmas.Bool.Decides.{nat_tests}
use Rattle.printer.specs.Reading.{tens, is_digit}
use Rattle.printer.proofs.Decimals.{sized_start, sized_none, sized_long, sized_step, sized_stop, sized_end, sized_over, digit_small, room, small}
use Rattle.printer.proofs.reading.decimal.read_size.Goals as goal

pub returns-then-is_empty : goal.returns-then-is_empty
returns-then-is_empty c = sym (sized_none c.args.digits.now c.args.limit (grind (arith, nat_tests)))

pub returns-then-digits-gt5 : goal.returns-then-digits-gt5
returns-then-digits-gt5 c = sym (sized_long c.args.digits.now c.args.limit c.if-digits-gt5.true)

pub loop-b-init : goal.loop-b-init
loop-b-init c = (omega arith, sized_start c.args.digits.now c.args.limit (grind (arith, nat_tests)) (omega arith))

pub returns-then-not-is_ascii_digit : goal.returns-then-not-is_ascii_digit
unfolding is_digit
returns-then-not-is_ascii_digit c =
    let s = c.args in
    let m = c.loop-b in
    sym (m.invariant.1 ∙ sized_stop s.digits.now s.limit m.n m.b-index (omega arith) (sym c.is_ascii_digit.ensures.value ∙ c.if-not-is_ascii_digit.true))

pub overflow_mul-n : goal.overflow_mul-n
overflow_mul-n c = let m = c.loop-b in omega (arith, small m.n m.b-index m.invariant.0 (omega arith))

pub loop-b-preserved : goal.loop-b-preserved
unfolding tens is_digit
loop-b-preserved c =
    let s = c.args in
    let m = c.loop-b in
    let b = get_or s.digits.now m.b-index 0 in
    let e : is_digit b ≡ true = sym c.is_ascii_digit.ensures.value ∙ c.if-not-is_ascii_digit.false in
    rw c.from.ensures (room m.n m.b-index _ m.invariant.0 (digit_small b e), m.invariant.1 ∙ sized_step s.digits.now s.limit m.n m.b-index (omega arith) e)

pub returns-then-n-limit : goal.returns-then-n-limit
returns-then-n-limit c =
    let s = c.args in
    let m = c.loop-b in
    sym (m.invariant.1 ∙ sized_over s.digits.now s.limit m.n m.b-index (omega arith) c.if-n-limit.true)

pub returns : goal.returns
returns c =
    let s = c.args in
    let m = c.loop-b in
    sym (m.invariant.1 ∙ sized_end s.digits.now s.limit m.n m.b-index (omega arith) c.if-n-limit.false)
