-- The answers are what the room begins with, and they are what is written.
-- Assumes nothing.
use Rattle.std.proofs.Common.{rules, sym}
use lib.Seq.{length-take-le}
use Rattle.session.specs.Program.{Turned}
use Rattle.session.proofs.Program.{answered, a_turn}
use Rattle.session.proofs.Carrying.{nothing_more, a_piece, some_read}
use Rattle.printer.proofs.Answers.{inside}
use Rattle.session.proofs.turn.Goals as goal

pub returns-then-n-eq0-clause-turned : goal.returns-then-n-eq0-clause-turned
returns-then-n-eq0-clause-turned g c = Turned.nothing

pub returns-then-n-eq0-clause-carried : goal.returns-then-n-eq0-clause-carried
returns-then-n-eq0-clause-carried g c = λ ok.
    let r = c.read_once-n.ensures in
    nothing_more _ _ _ _ _ c.if-n-eq0.true r.bytes (r.end ok c.if-n-eq0.true (search rules))

pub slice_bounds-say-end : goal.slice_bounds-say-end
slice_bounds-say-end g c = sym (length-take-le _ _ (inside c.hear-printed.ensures.print))

pub returns-clause-turned : goal.returns-clause-turned
returns-clause-turned g c = answered (search rules) (search rules) c.hear-printed.ensures

pub returns-clause-carried : goal.returns-clause-carried
returns-clause-carried g c = λ ok.
    let r = c.read_once-n.ensures in
    a_piece _ _ _ _ (a_turn (search rules) (search rules) c.hear-printed.ensures) (some_read _ _ c.if-n-eq0.false r.within) r.bytes (c.say.ensures.bytes ok)
