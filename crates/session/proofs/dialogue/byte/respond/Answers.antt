-- A line of 65 held bytes is too long, any other is answered as it stands.
-- Assumes nothing.
use mathlib.Core.List.{List}
use mathlib.Core.Path.{◌≡◌, refl, sym, ap, ◌∙◌}
use Prim.Native.Nat.{ℕ}
use native.Mathlib.Omega.{arith}
use borrow.Author.Rules.{rules}
use lib.ListN.{length}
use Rattle.printer.specs.Answering.{said, unheard}
use Rattle.printer.proofs.Replies.{told}
use Rattle.session.specs.Dialogue.{kept_of}
use Rattle.session.proofs.dialogue.Told.{too_long, short_enough}
use Rattle.session.proofs.dialogue.byte.respond.Goals as goal

pub returns-then-line-ge-LINE : goal.returns-then-line-ge-LINE
unfolding unheard
returns-then-line-ge-LINE c =
    let a = c.args in
    let long : length a.line.now.bytes ≡ 65 = search rules in
    told (too_long (kept_of a.unit.now a.line.now) long (omega arith)) (record { left = refl; print = c.show_unknown.ensures })

pub returns : goal.returns
returns c =
    let a = c.args in
    let long : length a.line.now.bytes ≡ 65 = search rules in
    told
    (short_enough (kept_of a.unit.now a.line.now) long (omega arith) ∙ ap (λ (l : List ℕ). said l a.unit.now) (sym c.text.ensures))
    c.answer.ensures
