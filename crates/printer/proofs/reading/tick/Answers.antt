-- A field a turn: the parts that are yielded are the line's fields.
-- Assumes nothing.
use mathlib.Core.Path.{refl, sym, ◌∙◌}
use native.Mathlib.Omega.{arith}
use mir.Facts.{to_z-of_z}
use mir.Syntax.{w16}
use Rattle.std.proofs.Common.{rules, tests}
use Rattle.std.proofs.lemmas.Iterator.Consumers.{YieldsList-turn, YieldsList-end}
use Rattle.std.proofs.lemmas.List.{length_push}
use Rattle.printer.specs.Reading.{unknown, tick_of, fields}
use Rattle.printer.proofs.Cutting.{road}
use Rattle.printer.proofs.Fields.{begun, too_many, no_decimal, one_more, too_few, complete}
use Rattle.printer.proofs.reading.tick.Goals as goal

pub loop-field-init : goal.loop-field-init
loop-field-init c = begun _ (fields c.args.rest.now) refl

pub returns-then-count-eq4 : goal.returns-then-count-eq4
unfolding unknown
returns-then-count-eq4 c =
    let t = YieldsList-turn (road _ c.args.rest.now (cc) (cc) (cc) (λ x r q k. search (rules, tests))) c.loop-field.yielded _ c.loop-field.yielded_by _ _ c.in-Some.field c.in-Some.is c.next.ensures.steps in
    sym (too_many c.loop-field.invariant _ t c.if-count-eq4.true)

pub returns-in_default : goal.returns-in_default
unfolding unknown
returns-in_default c =
    let t = YieldsList-turn (road _ c.args.rest.now (cc) (cc) (cc) (λ x r q k. search (rules, tests))) c.loop-field.yielded _ c.loop-field.yielded_by _ _ c.in-Some.field c.in-Some.is c.next.ensures.steps in
    sym (no_decimal c.loop-field.invariant _ t (sym c.read_number.ensures ∙ c.in_default.is))

pub loop-field-preserved : goal.loop-field-preserved
loop-field-preserved c =
    let t = YieldsList-turn (road _ c.args.rest.now (cc) (cc) (cc) (λ x r q k. search (rules, tests))) c.loop-field.yielded _ c.loop-field.yielded_by _ _ c.in-Some.field c.in-Some.is c.next.ensures.steps in
    rw (length_push c.loop-field.yielded c.in-Some.field, to_z-of_z {w = w16} {z = c.in-Some-read_number.v} (search rules))
    (one_more c.loop-field.invariant _ t c.in-Some-read_number.v (sym c.read_number.ensures ∙ c.in-Some-read_number.is) (omega (arith, c.loop-field.invariant.few)))

pub returns-then-count-lt4 : goal.returns-then-count-lt4
unfolding unknown
returns-then-count-lt4 c =
    let t = YieldsList-end (road _ c.args.rest.now (cc) (cc) (cc) (λ x r q k. search (rules, tests))) c.loop-field.yielded _ c.loop-field.yielded_by _ _ c.in-None.is c.next.ensures.steps in
    sym (too_few c.loop-field.invariant t.1 c.if-count-lt4.true)

pub returns : goal.returns
unfolding tick_of
returns c =
    let t = YieldsList-end (road _ c.args.rest.now (cc) (cc) (cc) (λ x r q k. search (rules, tests))) c.loop-field.yielded _ c.loop-field.yielded_by _ _ c.in-None.is c.next.ensures.steps in
    sym (complete c.loop-field.invariant t.1 c.if-count-lt4.false)
