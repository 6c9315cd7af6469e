-- By what the line asks for.
-- Assumes nothing.
use mathlib.Core.Path.{refl, ap, sym, ◌∙◌}
use Rattle.std.specs.Prelude.{Some}
use Rattle.printer.specs.Answering.{said, done, served, unheard}
use Rattle.printer.proofs.answering.answer.Goals as goal

pub returns-in-Some-Frame : goal.returns-in-Some-Frame
unfolding said done served
returns-in-Some-Frame c =
    let f = c.in-Some-Frame in
    rw (sym c.read.ensures ∙ f.is ∙ ap Some f.field-0-is) (record { left = c.serve_frame.ensures.state; print = c.serve_frame.ensures.print })

pub returns-in-Some-Tick : goal.returns-in-Some-Tick
unfolding said done
returns-in-Some-Tick c =
    let t = c.in-Some-Tick in
    rw (sym c.read.ensures ∙ t.is ∙ ap Some t.field-0-is) c.take_tick.ensures

pub returns-in-None : goal.returns-in-None
unfolding said done unheard
returns-in-None c = rw (sym c.read.ensures ∙ c.in-None.is) (record { left = refl; print = c.show_unknown.ensures })
