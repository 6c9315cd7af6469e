-- The words of input k + 1 are the k-th of their kind.
-- Assumes nothing.
use Prim.Native.Nat.{◌+◌, ◌-◌}
use mathlib.Core.Path.{◌≡◌}
use native.Mathlib.Omega.{arith}
use Rattle.dictionary.specs.Unit.{signals_at, runs_at, flags_at}
use Rattle.unit.proofs.Flags.{flag_is}
use Rattle.input.specs.Inputs.{remember}
use Rattle.input.proofs.turns.remember.Goals as goal

pub returns : goal.returns
unfolding remember runs_at flags_at signals_at
returns c = let k = c.args.k in
    let e : k + 1 - 1 ≡ k = omega arith in
    rw (e, c.from.ensures, flag_is c.args.memory.flagged)
