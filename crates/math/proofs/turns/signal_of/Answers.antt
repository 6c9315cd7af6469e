-- Disabled, without input 1, or all inputs joined.
-- Assumes nothing.
use Prim.Native.Nat.{◌+◌}
use mathlib.Core.Bool.{true}
use mathlib.Core.Path.{◌≡◌, refl, sym, ap, ◌∙◌}
use native.Mathlib.Omega.{arith}
use Rattle.numbers.specs.Choice.{first}
use Rattle.signals.specs.Signal.{is_absent}
use Rattle.math.specs.Math.{combined}
use Rattle.math.specs.declared.Operand.{Operand}
use Rattle.unit.proofs.Slots.{has, array}
use Rattle.unit.specs.Entry.{byte, switched}
use Rattle.math.specs.Maths.{operand, math_signal, joined_to}
use Rattle.math.proofs.turns.signal_of.Goals as goal
use Rattle.math.proofs.turns.signal_of.Goals.{After-absent, After-switched, Then-switched}

-- 4500h, by its name
enabled : (c : After-switched) → switched c.before.args.math.unit.now 0x4500 (c.before.args.math.k + 1) ≡ c.switched.result
unfolding switched byte has
enabled c = rw (array 0x4500 refl c.before.args.math.k c.before.args.math.is_one, c.switched.ensures)

on : (c : Then-switched) → switched c.before.before.args.math.unit.now 0x4500 (c.before.before.args.math.k + 1) ≡ true
on c = enabled c.before ∙ c.if-switched.true

-- whether input 1 is there
there : (c : After-absent) → is_absent (operand c.before.before.before.before.args.math.unit.now (c.before.before.before.before.args.math.k + 1) 1).signal ≡ c.absent.result
there c = ap (λ (o : Operand). is_absent o.signal) (sym c.before.operand-one.ensures) ∙ sym c.absent.ensures

pub returns-then-absent : goal.returns-then-absent
unfolding math_signal combined first
returns-then-absent c = rw (on (goal.at.returns-then-absent c).Then-switched, there (goal.at.returns-then-absent c).After-absent, c.if-absent.true)

pub returns-then-switched : goal.returns-then-switched
unfolding math_signal combined joined_to first
returns-then-switched c = rw (on (goal.at.returns-then-switched c).Then-switched, there (goal.at.returns-then-switched c).After-absent, c.if-absent.false, c.combine.ensures, c.operand-one.ensures)

pub returns : goal.returns
unfolding math_signal combined first
returns c = rw (enabled (goal.at.returns c).After-switched, c.if-switched.false)
