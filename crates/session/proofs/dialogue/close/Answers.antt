-- Nothing is held, or the held line is answered.
-- Assumes nothing.
use mathlib.Core.Path.{◌≡◌, refl}
use lib.ListN.{length}
use borrow.Author.Rules.{rules}
use Rattle.printer.proofs.Replies.{told}
use Rattle.session.specs.Dialogue.{kept_of}
use Rattle.session.proofs.dialogue.Told.{none_held, some_held}
use Rattle.session.proofs.dialogue.close.Goals as goal

pub returns-then-line-eq0 : goal.returns-then-line-eq0
returns-then-line-eq0 c =
    let a = c.args in
    told (none_held (kept_of a.unit.now a.line.now) c.if-line-eq0.true) (record { left = refl; print = record { counted = refl; bytes = refl } })

pub returns : goal.returns
returns c =
    let a = c.args in
    let long : length a.line.now.bytes ≡ 65 = search rules in
    told (some_held (kept_of a.unit.now a.line.now) long c.if-line-eq0.false) c.respond.ensures
