-- O, a command a turn, and the register.
-- Assumes nothing.
use Prim.Native.Nat.{◌≤◌, ◌+◌, ◌*◌}
use mathlib.Core.Path.{◌≡◌}
use lib.ListN.{length, take}
use Rattle.printer.specs.Printing.{each}
use Rattle.printer.specs.Put.{Put}
use Rattle.printer.proofs.answer_lines.Lines.{command_put}
use Rattle.printer.proofs.answer_lines.show_tick.Given as goal

abbrev pub invariant-loop-command : goal.invariant-loop-command
invariant-loop-command l = (length l.out ≡ 64) × ((l.at ≤ 1 + 7 * l.command-index) × Put l.initial.out l.initial.at (each command_put (take l.command-index l.fn.commands)) l.out l.at)
