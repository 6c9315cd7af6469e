-- The four flags, in order.
-- Assumes nothing.
use mathlib.Core.Path.{refl}
use Rattle.dictionary.specs.Unit.{flags_at}
use Rattle.input.specs.Inputs.{memory}
use Rattle.controller.specs.Register.{any_flagged}
use Rattle.controller.proofs.error_register.any_flagged.Goals as goal

pub returns : goal.returns
unfolding any_flagged memory flags_at
returns c = refl
