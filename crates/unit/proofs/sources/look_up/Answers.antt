-- By what the source has.
-- Assumes nothing.
use Prim.Native.Nat.{◌%◌, ◌<◌, ◌≤◌}
use mathlib.Core.Logic.{inl, inr}
use mathlib.Core.Path.{refl, sym, ap, ◌∙◌}
use native.Mathlib.Omega.{arith}
use Rattle.numbers.proofs.ExactLaws.{back}
use Rattle.signals.specs.declared.signal.Signal.TheVariants.{Whole, Real}
use Rattle.unit.specs.Entry.{whole}
use Rattle.unit.specs.Extent.{extent}
use Rattle.unit.proofs.Slots.{has, array_sub}
use Rattle.unit.proofs.sources.SourceLaws.{twelve_received, fifteen_constants, names_nothing, received, constants, in_row}
use Rattle.unit.proofs.sources.look_up.Goals as goal

pub returns-then-number-eq0 : goal.returns-then-number-eq0
returns-then-number-eq0 c = let a = c.args in sym (names_nothing a.unit.now a.pair.source a.pair.number (inl c.if-number-eq0.true))

pub returns-then-n-gt12 : goal.returns-then-n-gt12
returns-then-n-gt12 c =
    let a = c.args in
    let most = twelve_received a.pair.source c.if-source-eq1.true in
    sym (names_nothing a.unit.now a.pair.source a.pair.number (inr (omega arith)))

pub returns-then-source-eq1 : goal.returns-then-source-eq1
unfolding whole has
returns-then-source-eq1 c =
    let a = c.args in
    let some : 0 < a.pair.number = omega arith in
    let most = twelve_received a.pair.source c.if-source-eq1.true in
    rw (received a.unit.now a.pair.source a.pair.number some (omega arith) c.if-source-eq1.true, array_sub 0x2500 refl a.pair.number some c.if-n-gt12.false)
    (ap Whole (back c.whole_at.type_inv c.whole_at.ensures))

pub returns-then-n-gt15 : goal.returns-then-n-gt15
returns-then-n-gt15 c =
    let a = c.args in
    let most = fifteen_constants a.pair.source c.if-source-eq6.true in
    sym (names_nothing a.unit.now a.pair.source a.pair.number (inr (omega arith)))

pub returns-then-source-eq6 : goal.returns-then-source-eq6
returns-then-source-eq6 c =
    let a = c.args in
    let most = fifteen_constants a.pair.source c.if-source-eq6.true in
    ap Real c.constant.ensures ∙ sym (constants a.unit.now a.pair.source a.pair.number (omega arith) (omega arith) c.if-source-eq6.true)

pub returns-then-has-n : goal.returns-then-has-n
returns-then-has-n c =
    let a = c.args in
    sym (names_nothing a.unit.now a.pair.source a.pair.number (inr (rw (← c.extent-has.ensures) c.if-has-n.true)))

pub held-requires : goal.held-requires
held-requires c =
    let a = c.args in
    let most : a.pair.number ≤ extent a.pair.source % 16 = rw (← c.extent-has.ensures) c.if-has-n.false in
    rw c.extent-has.ensures (in_row a.unit.now a.pair.source a.pair.number (omega arith) most c.if-source-eq1.false c.if-source-eq6.false).0

pub returns : goal.returns
returns c =
    let a = c.args in
    let most : a.pair.number ≤ extent a.pair.source % 16 = rw (← c.extent-has.ensures) c.if-has-n.false in
    rw c.extent-has.ensures at c.held.ensures
    ∙ sym (in_row a.unit.now a.pair.source a.pair.number (omega arith) most c.if-source-eq1.false c.if-source-eq6.false).1
