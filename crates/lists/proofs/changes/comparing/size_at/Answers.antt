-- `changes::comparing::size_at` meets its contract.
-- Assumes nothing.
use native.Mathlib.Omega.{arith}
use Prim.Native.Nat.{◌+◌}
use Rattle.lists.proofs.changes.ComparingLaws.{first_tells}
use Rattle.lists.proofs.changes.comparing.size_at.Goals as goal

pub overflow_cast-result : goal.overflow_cast-result
overflow_cast-result c = omega (arith, c.shared_slice_known-1.given (c.args.place + 3))

pub returns : goal.returns
returns c = first_tells _ _ c.requires
