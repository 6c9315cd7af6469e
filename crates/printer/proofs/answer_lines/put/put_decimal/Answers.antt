-- A decimal: its sign, then the digits of its size.
-- Assumes nothing.
use mathlib.Core.Bool.{true, false}
use mathlib.Core.Path.{◌≡◌, ap, ◌∙◌}
use native.Mathlib.Omega.{arith}
use native.Mathlib.Numerals.{add-one}
use Prim.Native.Nat.{ℕ}
use lib.IntN.{ℤ, pos, nat_abs}
use mir.Syntax.{w16}
use mir.Val.{SFits, to_z, of_z}
use lib.ListN.{length, length-set}
use lib.Seq.{length-sets}
use mir.Facts.{to_z-of_z}
use Rattle.numbers.specs.Order.{below}
use Rattle.numbers.proofs.Tests.{lt_yes16, lt_no16}
use Rattle.printer.proofs.answer_lines.Signs.{size_small, plain_decimal, minus_decimal}
use Rattle.printer.proofs.answer_lines.put.put_decimal.Goals as goal

-- what is put has the number's size
size : {v : ℤ} {n m : ℕ} → SFits w16 v → n ≡ m → m ≡ nat_abs (to_z w16 (of_z w16 v)) → n ≡ nat_abs v
size f e q = e ∙ q ∙ ap nat_abs (to_z-of_z f)

pub put_digits-requires : goal.put_digits-requires
put_digits-requires c =
    let v = c.args.v in
    let n = size c.ranges.v c.from-size.ensures c.unsigned_abs.ensures.value in
    (omega (arith, n, size_small v c.ranges.v), simp length-set (omega arith))

pub shape_of-out-then-v-lt0 : goal.shape_of-out-then-v-lt0
shape_of-out-then-v-lt0 c = ap length c.put_digits.ensures.stored ∙ simp (length-sets, length-set)

pub returns-then-v-lt0 : goal.returns-then-v-lt0
returns-then-v-lt0 c =
    let v = c.args.v in
    let n = size c.ranges.v c.from-size.ensures c.unsigned_abs.ensures.value in
    let less : below v (pos 0) ≡ true = lt_yes16 v (pos 0) c.ranges.v (record { sfits = omega arith }) c.if-v-lt0.true in
    let e = rw n at c.put_digits.ensures in
    rw (minus_decimal v less) (record { stored = rw add-one at e.stored; place = omega (arith, e.place) })

pub put_digits-requires-2 : goal.put_digits-requires-2
put_digits-requires-2 c =
    let v = c.args.v in
    let n = size c.ranges.v c.from-size.ensures c.unsigned_abs.ensures.value in
    (omega (arith, n, size_small v c.ranges.v), omega arith)

pub returns : goal.returns
returns c =
    let v = c.args.v in
    let n = size c.ranges.v c.from-size.ensures c.unsigned_abs.ensures.value in
    let more : below v (pos 0) ≡ false = lt_no16 v (pos 0) c.ranges.v (record { sfits = omega arith }) c.if-v-lt0.false in
    rw (plain_decimal v more) (rw n at c.put_digits-2.ensures)
