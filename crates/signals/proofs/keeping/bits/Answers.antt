-- What is a number is equal to itself.
-- Assumes nothing.
use mathlib.Core.Path.{◌∙◌, sym}
use Rattle.numbers.specs.Choice.{first}
use Rattle.signals.specs.Words.{number_of_signal}
use Rattle.signals.proofs.keeping.WordLaws.{itself, not_itself}
use Rattle.signals.proofs.keeping.bits.Goals as goal

pub returns-then-is_nan : goal.returns-then-is_nan
unfolding number_of_signal first
returns-then-is_nan c = rw (not_itself c.args.x (sym c.is_nan.ensures.value ∙ c.if-is_nan.true))

pub returns-else-is_nan : goal.returns-else-is_nan
unfolding number_of_signal first
returns-else-is_nan c = rw (itself c.args.x (sym c.is_nan.ensures.value ∙ c.if-is_nan.false))
