-- The inputs before i were not in error (`Nexts`).
-- Assumes nothing.
use Prim.Native.Nat.{◌+◌}
use mathlib.Core.Path.{◌≡◌, refl, sym, ap, ◌∙◌}
use native.Mathlib.Omega.{arith}
use Rattle.signals.specs.Signal.{is_error}
use Rattle.why.specs.Seen.{saw}
use Rattle.why.specs.Trail.{wrong, lowest}
use Rattle.why.proofs.Nexts.{hit, miss, none}
use Rattle.why.specs.declared.types.Next.TheVariants.{Reads}
use Rattle.why.proofs.trailing.math_next.Goals as goal
use Rattle.why.proofs.trailing.math_next.Goals.{After-failed}

-- what was tested
is : (s : After-failed) → let m = s.before.before.before.before in
    let a = m.before.args in
    wrong a.math.unit.now a.math.k (m.loop-i.i + 1) ≡ s.failed.result
unfolding wrong
is s = let m = s.before.before.before.before in
    let a = m.before.args in
    sym (s.failed.ensures ∙ ap is_error (s.before.seen.ensures ∙ ap (saw a.math.unit.now (4 + a.math.k)) s.before.before.math_pair-pair.ensures))

pub loop-i-init : goal.loop-i-init
unfolding lowest
loop-i-init c = (omega arith, refl)

pub returns-then-failed : goal.returns-then-failed
returns-then-failed c = let a = c.args in
    ap Reads c.math_pair-pair.ensures ∙ hit a.math.unit.now a.math.k c.loop-i.i c.loop-i.invariant.1 (omega arith) (is (goal.at.returns-then-failed c).After-failed ∙ c.if-failed.true)

pub loop-i-preserved : goal.loop-i-preserved
loop-i-preserved c = let a = c.args in
    (omega arith, miss a.math.unit.now a.math.k c.loop-i.i c.loop-i.invariant.1 (omega arith) (is (goal.at.loop-i-preserved c).After-failed ∙ c.if-failed.false))

pub returns : goal.returns
returns c = none c.args.math.unit.now c.args.math.k c.loop-i.i c.loop-i.invariant.1 c.loop-i.invariant.0 (omega arith)
