-- None of those before t holds, so the first from t on is the first of all.
-- Assumes nothing.
use Prim.Native.Nat.{◌+◌}
use mathlib.Core.Bool.{true}
use mathlib.Core.Path.{◌≡◌, refl, sym, ◌∙◌}
use native.Mathlib.Omega.{arith}
use Rattle.numbers.specs.Choice.{first}
use Rattle.unit.proofs.Slots.{has, have, array, logic_array}
use Rattle.unit.specs.Entry.{byte, switched}
use Rattle.logic.specs.Logics.{first_that_holds, chosen}
use Rattle.logic.proofs.turns.Folds.{first_here, first_later}
use Rattle.logic.proofs.turns.selected.Goals as goal
use Rattle.logic.proofs.turns.selected.Goals.{After-switched, Then-switched}

-- 4000h, by its name
enabled : (c : After-switched) → switched c.args.logic.unit.now 0x4000 (c.args.logic.k + 1) ≡ c.switched.result
unfolding switched byte has
enabled c = rw (array 0x4000 refl c.args.logic.k c.args.logic.is_one, c.switched.ensures)

on : (c : Then-switched) → switched c.args.logic.unit.now 0x4000 (c.args.logic.k + 1) ≡ true
on c = enabled c.before ∙ c.if-switched.true

pub loop-t-init : goal.loop-t-init
loop-t-init c = (omega arith, refl)

pub returns-then-holds_at : goal.returns-then-holds_at
unfolding chosen first byte have
returns-then-holds_at c =
    let a = c.args in
    let here = first_here _ _ c.loop-t.t (omega arith) (sym c.holds_at.ensures ∙ c.if-holds_at.true) in
    rw (on (goal.at.returns-then-holds_at c).Then-switched, ← c.loop-t.invariant.1, here, logic_array 0x4001 refl a.logic.k a.logic.is_one c.loop-t.t (omega arith)) c.byte_at.ensures

pub loop-t-preserved : goal.loop-t-preserved
loop-t-preserved c =
    (omega arith, sym (first_later _ _ c.loop-t.t (omega arith) (sym c.holds_at.ensures ∙ c.if-holds_at.false)) ∙ c.loop-t.invariant.1)

pub returns-after-loop-t : goal.returns-after-loop-t
unfolding chosen first_that_holds first
returns-after-loop-t c =
    let all : c.loop-t.t ≡ 3 = omega arith in
    rw (on (goal.at.returns-after-loop-t c).Then-switched, ← c.loop-t.invariant.1, all)

pub returns-else-switched : goal.returns-else-switched
unfolding chosen first
returns-else-switched c = rw (enabled (goal.at.returns-else-switched c).After-switched, c.if-switched.false)
