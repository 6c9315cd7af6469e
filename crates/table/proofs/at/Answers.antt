-- The INTEGER16 that the word holds.
use mathlib.Core.Path.{ap, ◌∙◌}
use Rattle.numbers.specs.Signed.{signed16}
use Rattle.table.specs.Table.{value}
use Rattle.numbers.proofs.ExactLaws.{back}
use Rattle.table.proofs.at.Goals as goal

pub returns : goal.returns
unfolding value
returns c = back c.signed.type_inv (c.signed.ensures ∙ ap signed16 c.word_at.ensures)
