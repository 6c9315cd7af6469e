-- The limited last command, the target, the direction and the count, read through their calls.
-- Assumes nothing.
use Prim.Native.Nat.{◌+◌, ◌<◌}
use mathlib.Core.Path.{◌≡◌, refl, sym, ap, ◌∙◌}
use native.Mathlib.Omega.{arith}
use borrow.Author.Tests.{ne_eqb}
use mir.Syntax.{w16}
use mir.Val.{to_z, of_z, SFits}
use mir.Facts.{to_z-of_z}
use Rattle.numbers.specs.Choice.{first}
use Rattle.numbers.specs.Limit.{limit_whole}
use Rattle.numbers.specs.Order.{below}
use Rattle.numbers.proofs.limits.LimitLaws.{of_whole}
use Rattle.numbers.proofs.ExactLaws.{back}
use Rattle.unit.proofs.Slots.{has}
use Rattle.unit.proofs.WordLaws.{whole_is}
use Rattle.unit.specs.Entry.{whole}
use Rattle.output.specs.Output.{equal, rests, moved, target, ramped}
use Rattle.output.specs.Outputs.{settings, motion}
use Rattle.output.proofs.ramps.ReadLaws.{count_is, went_on}
use borrow.Author.Rules.{rules}
use Rattle.output.proofs.Found.{found_equal, found_other}
use Rattle.output.proofs.ramps.ramp.Goals as goal
use Rattle.output.proofs.ramps.ramp.Goals.{After-aim-to, After-limit-from, After-struct_told-1, After-struct_told-2-1}

-- what the struct's fields fit, found where little else is in reach
low_fits : (c : After-struct_told-1) → SFits w16 c.before.before.settings_of-s.result.fv1
low_fits c = search rules

high_fits : (c : After-struct_told-2-1) → SFits w16 c.before.before.before.settings_of-s.result.fv2
high_fits c = search rules

from : (c : After-limit-from) → SFits w16 c.before.before.before.settings_of-s.result.fv1 → SFits w16 c.before.before.before.settings_of-s.result.fv2 → let a = c.before.before.before.before.before.args in
    let s = settings a.output.unit.now (a.output.k + 1) in
    to_z w16 (of_z w16 c.limit-from.result) ≡ limit_whole (whole a.output.unit.now 0x7330 (a.output.k + 1)) s.fv1 s.fv2
unfolding has
from c low high = let t = c.before in
    let w = t.before.before in
    let a = w.before.before.args in
    let h : a.output.k < 4 = a.output.is_one in
    back c.limit-from.type_inv
    (c.limit-from.ensures
    ∙ of_whole _ _ _
    ∙ rw (whole_is 0x7330 a.output.unit.now a.output.k h w.whole.type_inv w.whole.ensures refl, to_z-of_z low, to_z-of_z high, w.before.settings_of-s.ensures))

to : (c : After-aim-to) → let a = c.before.before.before.before.before.before.args in
    to_z w16 (of_z w16 c.aim-to.result) ≡ target (settings a.output.unit.now (a.output.k + 1)) a.v
to c = let s = c.before.before.before.before.before in
    back c.aim-to.type_inv (c.aim-to.ensures ∙ rw (to_z-of_z s.before.ranges.v, s.settings_of-s.ensures))

pub returns-then-from-to : goal.returns-then-from-to
unfolding ramped motion first
returns-then-from-to c = let at = goal.at.returns-then-from-to c in
    let from_is = from at.After-limit-from (low_fits at.After-struct_told-1) (high_fits at.After-struct_told-2-1) in
    let to_is = to at.After-aim-to in
    rw (found_equal c.limit-from.result c.aim-to.result c.limit-from.type_inv c.aim-to.type_inv from_is to_is c.if-from-to.true) (c.rest.ensures ∙ ap rests to_is)

pub returns-then-used-eq0 : goal.returns-then-used-eq0
unfolding ramped motion below first
returns-then-used-eq0 c = let at = goal.at.returns-then-used-eq0 c in
    let from_is = from at.After-limit-from (low_fits at.After-struct_told-1) (high_fits at.After-struct_told-2-1) in
    let to_is = to at.After-aim-to in
    rw (found_other c.limit-from.result c.aim-to.result c.limit-from.type_inv c.aim-to.type_inv from_is to_is c.if-from-to.false, ← from_is, ← to_is, ← c.in_use-used.ensures, c.if-used-eq0.true) c.rest-then-used-eq0.ensures

pub begin-requires : goal.begin-requires
begin-requires c = let a = c.args in
    λ more none. went_on (settings a.output.unit.now (a.output.k + 1)) (motion a.output.unit.now (a.output.k + 1)) _ _ (λ one. more (c.count_on-ticks.ensures.0 ∙ one)) (count_is a.output.unit.now a.output.k ∙ none)

pub returns : goal.returns
unfolding ramped moved motion below first
returns c = let at = goal.at.returns c in
    let from_is = from at.After-limit-from (low_fits at.After-struct_told-1) (high_fits at.After-struct_told-2-1) in
    let to_is = to at.After-aim-to in
    rw (found_other c.limit-from.result c.aim-to.result c.limit-from.type_inv c.aim-to.type_inv from_is to_is c.if-from-to.false, ← from_is, ← to_is, ← c.in_use-used.ensures, ne_eqb _ 0 c.if-used-eq0.false, ← c.count_on-ticks.ensures.0)
    (c.advance.ensures ∙ rw (c.settings_of-s.ensures, back c.begin.type_inv c.begin.ensures))
