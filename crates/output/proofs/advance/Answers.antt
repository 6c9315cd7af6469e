-- The command as the calls give it, and whether it arrived.
-- Assumes nothing.
use mathlib.Core.Path.{◌≡◌, sym, ap, ◌∙◌}
use mir.Syntax.{w16}
use mir.Val.{to_z, of_z, SFits}
use mir.Facts.{to_z-of_z}
use Rattle.numbers.specs.Choice.{first}
use Rattle.numbers.proofs.ExactLaws.{back}
use Rattle.output.specs.Output.{span, way, reached, equal, rests, advanced}
use borrow.Author.Rules.{rules}
use Rattle.output.proofs.Found.{found_equal, found_other}
use Rattle.output.proofs.advance.Goals as goal
use Rattle.output.proofs.advance.Goals.{After-reach-command, After-struct_told-1, After-struct_told-2-1}

-- what the struct's fields fit, found where little else is in reach
low_fits : (c : After-struct_told-1) → SFits w16 c.before.args.s.fv1
low_fits c = search rules

high_fits : (c : After-struct_told-2-1) → SFits w16 c.before.before.args.s.fv2
high_fits c = search rules

command : (c : After-reach-command) → SFits w16 c.before.before.before.before.before.args.s.fv1 → SFits w16 c.before.before.before.before.before.args.s.fv2 → let a = c.before.before.before.before.before.args in
    to_z w16 (of_z w16 c.reach-command.result) ≡ reached a.rising a.start (way a.ticks (span a.s.fv1 a.s.fv2) a.ramp) a.from a.to
command c low high = let t = c.before.before.before in
    let f = t.before.before.ranges in
    back c.reach-command.type_inv
    (c.reach-command.ensures
    ∙ rw (to_z-of_z f.start, to_z-of_z f.from, to_z-of_z f.to, c.before.movement-far.ensures, c.before.before.width.ensures, to_z-of_z low, to_z-of_z high))

pub returns-then-command-to : goal.returns-then-command-to
unfolding advanced first
returns-then-command-to c =
    let at = goal.at.returns-then-command-to c in
    let e = command at.After-reach-command (low_fits at.After-struct_told-1) (high_fits at.After-struct_told-2-1) in
    rw (found_equal c.reach-command.result c.args.to c.reach-command.type_inv c.ranges.to.sfits e (to_z-of_z c.ranges.to) c.if-command-to.true)
    (c.rest.ensures ∙ ap rests (to_z-of_z c.ranges.to))

pub returns : goal.returns
unfolding advanced first
returns c =
    let at = goal.at.returns c in
    let low = low_fits at.After-struct_told-1 in
    let high = high_fits at.After-struct_told-2-1 in
    let e = command at.After-reach-command low high in
    rw (found_other c.reach-command.result c.args.to c.reach-command.type_inv c.ranges.to.sfits e (to_z-of_z c.ranges.to) c.if-command-to.false, e, to_z-of_z c.ranges.start, to_z-of_z low, to_z-of_z high)
