-- Both entries by their slots.
-- Assumes nothing.
use mathlib.Core.Path.{refl}
use native.Mathlib.Omega.{arith}
use Rattle.unit.proofs.Slots.{have, table_var}
use Rattle.unit.specs.Entry.{byte}
use Rattle.why.specs.Trail.{pair, table_pair}
use Rattle.why.proofs.trailing.table_pair.Goals as goal

pub returns : goal.returns
unfolding table_pair pair byte have
returns c = let a = c.args in
    rw (table_var 0x3000 refl a.table.k a.table.is_one, table_var 0x3001 refl a.table.k a.table.is_one) c.pair_at.ensures
