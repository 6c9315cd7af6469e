-- `changes::comparing::number_at` meets its contract (`ComparingLaws`).
-- Assumes nothing.
use mathlib.Core.Path.{sym, ap, ◌∙◌}
use native.Mathlib.Omega.{arith}
use Prim.Native.Nat.{◌+◌, ◌-◌}
use borrow.Author.Rules.{sfits_of}
use mir.Facts.{to_z-of_z}
use Rattle.numbers.specs.Signed.{signed16}
use Rattle.lists.proofs.changes.ComparingLaws.{one_byte, two_bytes}
use Rattle.lists.proofs.changes.comparing.number_at.Goals as goal
use mir.Syntax.{w16}

pub overflow_cast-image : goal.overflow_cast-image
overflow_cast-image c = omega (arith, c.shared_slice_known-then-size-eq1-1.given (c.args.place + 7))

pub returns-then-size-eq1 : goal.returns-then-size-eq1
returns-then-size-eq1 c =
    to_z-of_z {w = w16} (sfits_of c.signed.type_inv) ∙ c.signed.ensures ∙ one_byte _ _ c.requires.0 (sym c.if-size-eq1.true ∙ c.requires.1)

pub returns : goal.returns
returns c =
    let some = c.requires.0.some in
    let other = c.if-size-eq1.false in
    to_z-of_z {w = w16} (sfits_of c.signed-2.type_inv) ∙ c.signed-2.ensures ∙ ap signed16 c.two.ensures
    ∙ two_bytes _ _ c.requires.0 (c.args.size - 2) (omega (arith, c.requires.1))
