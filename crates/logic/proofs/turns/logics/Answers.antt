-- The blocks before k are done: the unit is theirs.
-- Assumes nothing.
use Prim.Native.Nat.{◌+◌, ◌-◌}
use mathlib.Core.Path.{◌≡◌, refl}
use native.Mathlib.Omega.{arith}
use Rattle.unit.proofs.Each.{more, done}
use Rattle.unit.specs.Each.{each}
use Rattle.unit.proofs.Slots.{has, array}
use Rattle.unit.specs.Entry.{publish}
use Rattle.unit.specs.Held.{lay}
use Rattle.numbers.proofs.ExactLaws.{back}
use Rattle.logic.specs.Logics.{logic_turn}
use Rattle.logic.proofs.turns.logics.Goals as goal

pub loop-k-init : goal.loop-k-init
unfolding each
loop-k-init c = (omega arith, refl)

pub loop-k-preserved : goal.loop-k-preserved
unfolding logic_turn publish lay has
loop-k-preserved c =
    let before = c.loop-k in
    let k = before.k in
    let e : k + 1 - 1 ≡ k = omega arith in
    (omega arith, rw (more logic_turn _ k, ← before.invariant.1, array 0x4010 refl k (omega arith), array 0x4020 refl k (omega arith), e, c.lay.ensures, c.pattern.ensures, back c.as_whole.type_inv c.as_whole.ensures, c.look_up-signal.ensures, c.selected-number.ensures))

pub returns : goal.returns
returns c = done logic_turn _ c.loop-k.k 2 (omega arith) c.loop-k.invariant.1
