-- A space and a decimal.
-- Assumes nothing.
use mathlib.Core.Path.{ap, ◌∙◌}
use native.Mathlib.Omega.{arith}
use native.Mathlib.Numerals.{add-one}
use lib.ListN.{length, length-set}
use lib.Seq.{length-sets}
use mir.Facts.{to_z-of_z}
use Rattle.printer.proofs.answer_lines.put.put_command.Goals as goal

pub put_decimal-requires : goal.put_decimal-requires
put_decimal-requires c = simp length-set (omega arith)

pub shape_of-out : goal.shape_of-out
shape_of-out c = ap length c.put_decimal.ensures.stored ∙ simp (length-sets, length-set)

pub returns : goal.returns
returns c =
    let e = rw (to_z-of_z c.ranges.v) at c.put_decimal.ensures in
    record { stored = rw add-one at e.stored; place = omega (arith, e.place) }
