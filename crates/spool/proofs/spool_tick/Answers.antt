-- The tick's own equation, and the interlock over the commands that it left.
-- Assumes nothing.
use mathlib.Core.List.{List}
use mathlib.Core.Path.{◌∙◌, ap}
use lib.IntN.{ℤ}
use Rattle.firmware.specs.Published.{commands}
use Rattle.spool.specs.Interlock.{interlocked}
use Rattle.spool.proofs.spool_tick.Goals as goal

pub returns : goal.returns
returns c =
    let ticks = c.tick.ensures in
    let sent = c.args.sent.now in
    record { unit = ticks; sent = c.interlock.ensures ∙ ap (λ (l : List ℤ). interlocked l sent) (c.valve_commands.ensures ∙ ap commands ticks) }
