-- Each part by the slot of its name.
-- Assumes nothing.
use mathlib.Core.Path.{refl}
use native.Mathlib.Omega.{arith}
use Rattle.unit.proofs.Slots.{have, table_var, table_array}
use Rattle.unit.specs.Entry.{byte}
use Rattle.table.specs.Tables.{eleven, table_signal}
use Rattle.table.proofs.turns.signal_of.Goals as goal

pub returns : goal.returns
unfolding table_signal eleven byte have
returns c =
    let k = c.args.table.k in
    let h = c.args.table.is_one in
    rw (
      table_var 0x3000 refl k h,
      table_var 0x3001 refl k h,
      table_array 0x3004 refl k h,
      table_array 0x3005 refl k h,
      table_array 0x3006 refl k h,
      c.curve.ensures,
      c.look_up-signal.ensures,
      c.pair_at.ensures,
    )
