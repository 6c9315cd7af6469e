-- Eight bytes as hex digits, a byte a turn, and the line end.
-- Assumes nothing.
use Prim.Native.Nat.{◌*◌}
use mathlib.Core.Path.{◌≡◌}
use lib.ListN.{take}
use Rattle.printer.specs.Printing.{hex2, each}
use Rattle.printer.specs.Put.{Put}
use Rattle.printer.proofs.answer_lines.show_reply.Given as goal

abbrev pub invariant-loop-b : goal.invariant-loop-b
invariant-loop-b l = (l.at ≡ 2 * l.b-index) × Put l.initial.out 0 (each hex2 (take l.b-index l.reply)) l.out l.at
