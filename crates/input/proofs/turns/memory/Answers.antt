-- The words of input k + 1 are the k-th of their kind.
-- Assumes nothing.
use Prim.Native.Nat.{◌+◌, ◌-◌}
use mathlib.Core.Path.{◌≡◌}
use native.Mathlib.Omega.{arith}
use Rattle.dictionary.specs.Unit.{signals_at, runs_at, flags_at}
use Rattle.input.specs.Inputs.{memory}
use Rattle.input.proofs.turns.memory.Goals as goal

pub returns : goal.returns
unfolding memory runs_at flags_at signals_at
returns c = let k = c.args.input.k in
    let e : k + 1 - 1 ≡ k = omega arith in
    rw e
