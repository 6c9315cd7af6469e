-- By cases of the response.
use mathlib.Core.Path.{◌∙◌}
use borrow.Author.Tests.{eq-eqb, ne_eqb}
use mir.Facts.{to_z-of_z}
use Rattle.numbers.specs.Choice.{first}
use Rattle.table.specs.Table.{interval}
use Rattle.numbers.proofs.ExactLaws.{back, told}
use Rattle.table.proofs.piece.Goals as goal

pub returns-then-word_at-eq1 : goal.returns-then-word_at-eq1
unfolding interval first
returns-then-word_at-eq1 c =
    rw (eq-eqb _ _ (told c.word_at.ensures c.if-word_at-eq1.true))
    (back c.line.type_inv
    (c.line.ensures ∙ rw (
      back c.at.type_inv c.at.ensures,
      back c.at-then-word_at-eq1.type_inv c.at-then-word_at-eq1.ensures,
      back c.at-then-word_at-eq1-2.type_inv c.at-then-word_at-eq1-2.ensures,
      back c.at-end.type_inv c.at-end.ensures,
      to_z-of_z c.ranges.v,
    )))

pub returns : goal.returns
unfolding interval first
returns c =
    rw (ne_eqb _ _ (λ e. c.if-word_at-eq1.false (c.word_at.ensures ∙ e))) (back c.at-end.type_inv c.at-end.ensures)
