-- The tables before k are done: the unit is theirs.
-- Assumes nothing.
use Prim.Native.Nat.{◌+◌, ◌-◌}
use mathlib.Core.Path.{◌≡◌, refl}
use native.Mathlib.Omega.{arith}
use Rattle.unit.proofs.Each.{more, done}
use Rattle.unit.specs.Each.{each}
use Rattle.unit.proofs.Slots.{have, table_value}
use Rattle.unit.specs.Entry.{publish}
use Rattle.unit.specs.Held.{lay}
use Rattle.numbers.proofs.ExactLaws.{back}
use Rattle.table.specs.Tables.{table_turn}
use Rattle.table.proofs.turns.tables.Goals as goal

pub loop-k-init : goal.loop-k-init
unfolding each
loop-k-init c = (omega arith, refl)

pub loop-k-preserved : goal.loop-k-preserved
unfolding table_turn publish lay have
loop-k-preserved c =
    let before = c.loop-k in
    let k = before.k in
    let e : k + 1 - 1 ≡ k = omega arith in
    (omega arith, rw (more table_turn _ k, ← before.invariant.1, table_value 0x3007 refl k (omega arith), e, c.lay.ensures, c.pattern.ensures, back c.as_whole.type_inv c.as_whole.ensures, c.signal_of-signal.ensures))

pub returns : goal.returns
returns c = done table_turn _ c.loop-k.k 6 (omega arith) c.loop-k.invariant.1
