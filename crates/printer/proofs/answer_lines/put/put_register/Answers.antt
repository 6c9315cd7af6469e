-- A space, two hex digits and the line end.
-- Assumes nothing.
use Prim.Native.Nat.{suc, ◌+◌}
use mathlib.Core.Path.{◌≡◌, ap, ◌∙◌}
use native.Mathlib.Omega.{arith}
use native.Mathlib.Numerals.{add-one}
use borrow.Author.Rules.{rules}
use lib.ListN.{length, length-set}
use lib.Seq.{length-sets}
use Rattle.printer.specs.Printing.{hex2}
use Rattle.printer.proofs.answer_lines.put.put_register.Goals as goal

pub put_hex-end-requires : goal.put_hex-end-requires
put_hex-end-requires c = simp length-set (omega arith)

pub bounds-out-end : goal.bounds-out-end
unfolding hex2
bounds-out-end c =
    let kept : length c.put_hex-end.new.out ≡ length c.args.out.now = ap length c.put_hex-end.ensures.stored ∙ simp (length-sets, length-set) in
    omega arith

pub overflow_add-result : goal.overflow_add-result
unfolding hex2
overflow_add-result c = search rules

pub shape_of-out : goal.shape_of-out
shape_of-out c =
    let kept : length c.put_hex-end.new.out ≡ length c.args.out.now = ap length c.put_hex-end.ensures.stored ∙ simp (length-sets, length-set) in
    simp length-set kept

pub returns : goal.returns
unfolding hex2
returns c =
    let e = c.put_hex-end.ensures in
    let k : c.args.at + 1 + 2 ≡ suc (suc (suc c.args.at)) = omega arith in
    record { stored = rw (e.stored, e.place, k, add-one); place = omega (arith, e.place) }
