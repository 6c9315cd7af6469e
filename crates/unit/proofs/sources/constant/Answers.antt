-- 5010h:1 and :2 stand apart from the others.
-- Assumes nothing.
use mathlib.Core.Path.{refl}
use native.Mathlib.Omega.{arith}
use Rattle.unit.specs.Entry.{real}
use Rattle.unit.proofs.Slots.{has, fixed_constant, constant}
use Rattle.unit.proofs.sources.constant.Goals as goal

pub returns-then-number-lt3 : goal.returns-then-number-lt3
unfolding real has
returns-then-number-lt3 c = rw (fixed_constant refl c.args.number (omega arith) (omega arith)) c.real_of.ensures

pub returns : goal.returns
unfolding real has
returns c = rw (constant refl c.args.number (omega arith) (omega arith)) c.real_of-2.ensures
