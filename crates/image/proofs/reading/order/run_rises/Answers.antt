-- `reading::order::run_rises` meets its contract: what is left of the run decides (`OrderLaws`).
-- Assumes nothing.
use native.Mathlib.Omega.{arith}
use Prim.Native.Nat.{◌+◌, ◌-◌}
use mathlib.Core.Path.{◌≡◌, refl}
use Rattle.image.specs.Places.{rises, run_of}
use Rattle.image.proofs.reading.OrderLaws.{run_broken, run_on, run_done}
use Rattle.image.proofs.reading.order.run_rises.Goals as goal

pub loop-init : goal.loop-init
unfolding run_of
loop-init c = let all : c.args.run.pairs - 0 ≡ c.args.run.pairs = omega arith in rw (all, c.from.ensures, c.from-2.ensures) (omega arith, (omega arith, refl))

pub returns-then-not-rises : goal.returns-then-not-rises
unfolding rises
returns-then-not-rises c =
    let m = c.loop in run_broken _ m.pair.lower m.pair.upper _ (c.args.run.pairs - m.counter) m.invariant.1.1 (c.args.run.pairs - (m.counter + 1)) (omega arith) c.rises.ensures c.if-not-rises.true

pub loop-preserved : goal.loop-preserved
unfolding rises
loop-preserved c =
    let m = c.loop in (omega arith, (omega arith, run_on _ m.pair.lower m.pair.upper _ (c.args.run.pairs - m.counter) m.invariant.1.1 (c.args.run.pairs - (m.counter + 1)) (omega arith) c.rises.ensures c.if-not-rises.false))

pub returns : goal.returns
returns c = let m = c.loop in run_done _ m.pair.lower m.pair.upper _ (c.args.run.pairs - m.counter) m.invariant.1.1 (omega arith)
