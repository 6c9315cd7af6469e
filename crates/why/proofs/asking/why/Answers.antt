-- Refusals in their order, then the rule (`Answers`).
-- Assumes nothing.
use Prim.Native.Nat.{◌+◌, ◌-◌}
use mathlib.Core.Path.{◌≡◌}
use native.Mathlib.Omega.{arith}
use Rattle.dictionary.specs.Unit.{ticked_at}
use Rattle.why.proofs.Answers.{too_low, too_high, unticked_yet, is_told, refuses, refuses_yet, tells}
use Rattle.why.proofs.asking.why.Goals as goal

pub returns-then-output-eq0 : goal.returns-then-output-eq0
returns-then-output-eq0 c = refuses _ _ _ (too_low _ _ c.if-output-eq0.true)

pub returns-then-output-gt4 : goal.returns-then-output-gt4
returns-then-output-gt4 c = refuses _ _ _ (too_high _ _ c.if-output-gt4.true)

pub returns-then-unit-eq0 : goal.returns-then-unit-eq0
unfolding ticked_at
returns-then-unit-eq0 c = refuses_yet _ _ _ (unticked_yet _ _ c.if-output-eq0.false c.if-output-gt4.false c.if-unit-eq0.true)

pub returns : goal.returns
unfolding ticked_at
returns c = let a = c.args in
    let e : a.output - 1 + 1 ≡ a.output = omega arith in
    tells a.unit.now a.output (is_told a.unit.now a.output c.if-output-eq0.false c.if-output-gt4.false c.if-unit-eq0.false) (rw e at c.rule_of-rule.ensures) (rw e at c.decider.ensures) c.explain.ensures
