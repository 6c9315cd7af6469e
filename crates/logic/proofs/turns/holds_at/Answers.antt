-- The conditions before are gathered; once they are settled the others do not matter.
-- Assumes nothing.
use Prim.Native.Nat.{◌+◌}
use mathlib.Core.Path.{◌≡◌, refl, sym, ◌∙◌}
use native.Mathlib.Nat.{add-zero}
use native.Mathlib.Omega.{arith}
use Rattle.numbers.specs.Choice.{first}
use Rattle.logic.specs.Logic.{holding}
use Rattle.unit.proofs.Slots.{have, have_conditions, logic_array, condition}
use Rattle.unit.specs.Entry.{byte}
use Rattle.logic.specs.Logics.{of_logic, condition_of, holds_of}
use Rattle.logic.proofs.turns.Folds.{counted, after_one, after_two, after_three, gathered_three, settled_by_one, settled_by_two}
use Rattle.logic.proofs.turns.holds_at.Goals as goal
use Rattle.logic.proofs.turns.holds_at.Goals.{After-byte_at-operator, After-gather, After-gather-one, After-gather-two}

-- the operator, by its name
by_name : (c : After-byte_at-operator) → c.byte_at-operator.result ≡ byte c.args.logic.unit.now (of_logic 0x4002 (c.args.logic.k + 1)) (c.args.t + 1)
unfolding byte have
by_name c = rw (logic_array 0x4002 refl c.args.logic.k c.args.logic.is_one c.args.t (omega arith)) c.byte_at-operator.ensures

one : (c : After-gather-one) → c.gather-one.result ≡ after_one c.args.logic.unit.now (c.args.logic.k + 1) (c.args.t + 1) c.byte_at-operator.result
unfolding after_one counted condition_of have_conditions
one c =
    let a = c.args in
    rw (condition refl a.logic.k a.logic.is_one a.t (omega arith) 0 (omega arith), add-zero, ← c.counts_at.ensures) c.gather-one.ensures

pub returns-then-operator-eq0 : goal.returns-then-operator-eq0
unfolding holds_of holding first byte have
returns-then-operator-eq0 c =
    let a = c.args in
    rw (logic_array 0x4002 refl a.logic.k a.logic.is_one a.t (omega arith), ← c.byte_at-operator.ensures, c.if-operator-eq0.true)

pub returns-then-settles : goal.returns-then-settles
returns-then-settles c =
    let at = goal.at.returns-then-settles c in
    let so = one at.After-gather-one in
    so ∙ settled_by_one _ _ _ _ c.if-operator-eq0.false (by_name at.After-byte_at-operator) (rw (← so) (sym c.settles.ensures ∙ c.if-settles.true))

two : (c : After-gather-two) → c.gather-one.result ≡ after_one c.args.logic.unit.now (c.args.logic.k + 1) (c.args.t + 1) c.byte_at-operator.result →
    c.gather-two.result ≡ after_two c.args.logic.unit.now (c.args.logic.k + 1) (c.args.t + 1) c.byte_at-operator.result
unfolding after_two counted condition_of have_conditions
two c e =
    let a = c.args in
    rw (← e, condition refl a.logic.k a.logic.is_one a.t (omega arith) 1 (omega arith), ← c.counts_at-2.ensures) c.gather-two.ensures

pub returns-then-settles-2 : goal.returns-then-settles-2
returns-then-settles-2 c =
    let at = goal.at.returns-then-settles-2 c in
    let so = two at.After-gather-two (one at.After-gather-one) in
    so ∙ settled_by_two _ _ _ _ c.if-operator-eq0.false (by_name at.After-byte_at-operator) (rw (← so) (sym c.settles-2.ensures ∙ c.if-settles-2.true))

three : (c : After-gather) → c.gather-two.result ≡ after_two c.args.logic.unit.now (c.args.logic.k + 1) (c.args.t + 1) c.byte_at-operator.result →
    c.gather.result ≡ after_three c.args.logic.unit.now (c.args.logic.k + 1) (c.args.t + 1) c.byte_at-operator.result
unfolding after_three counted condition_of have_conditions
three c e =
    let a = c.args in
    rw (← e, condition refl a.logic.k a.logic.is_one a.t (omega arith) 2 (omega arith), ← c.counts_at-3.ensures) c.gather.ensures

pub returns : goal.returns
returns c =
    let at = goal.at.returns c in
    three at.After-gather (two at.After-gather-two (one at.After-gather-one))
    ∙ gathered_three _ _ _ _ c.if-operator-eq0.false (by_name at.After-byte_at-operator)
