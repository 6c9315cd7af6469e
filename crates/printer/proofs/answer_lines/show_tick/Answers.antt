-- O, a command a turn, and the register.
-- Assumes nothing.
use mathlib.Core.List.{[], ◌∷◌}
use mathlib.Core.Path.{refl, ap, ◌∙◌}
use native.Mathlib.Omega.{arith}
use borrow.Author.Rules.{rules}
use lib.IntN.{pos}
use lib.ListN.{length, get_or, length-set}
use lib.Seq.{take_all}
use mir.Facts.{to_z-of_z}
use Rattle.printer.specs.Printing.{hex2, each}
use Rattle.printer.proofs.answer_lines.Lines.{command_put, each_next, tick_put}
use Rattle.printer.proofs.answer_lines.Places.{decimal_most}
use Rattle.printer.proofs.Stores.{join, printed}
use Rattle.printer.proofs.answer_lines.show_tick.Goals as goal
use mir.Syntax.{w16}

pub loop-command-init : goal.loop-command-init
unfolding each
loop-command-init c = (ap length c.put.ensures ∙ simp length-set (omega arith), (omega arith, record { stored = refl; place = omega arith }))

pub loop-command-preserved : goal.loop-command-preserved
unfolding command_put
loop-command-preserved c =
    let m = c.loop-command in
    let s = c.args in
    let e = rw (to_z-of_z {w = w16} {z = get_or s.commands m.command-index (pos 0)} (search rules)) at c.put_command-at.ensures in (
      c.put_command-at.auto.out ∙ m.invariant.0,
      (
        omega (arith, e.place, decimal_most (get_or s.commands m.command-index (pos 0))),
        rw (each_next command_put s.commands m.command-index (pos 0) (omega arith)) (join m.invariant.1.1 e),
      ),
    )

pub returns : goal.returns
unfolding hex2
returns c =
    let m = c.loop-command in
    let s = c.args in
    let all = take_all m.command-index s.commands (omega arith) in
    let g = join (join {bytes = 0x4F ∷ []} (record { stored = c.put.ensures; place = refl }) (rw all at m.invariant.1.1)) c.put_register.ensures in
    rw (tick_put s.commands s.register) (printed g (omega (arith, g.place, c.put_register.ensures.place)))
