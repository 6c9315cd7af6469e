-- `records::data::data_in` meets its contract: the data stands behind the head (`TakeLaws`).
-- Assumes nothing.
use mathlib.Core.Path.{◌∙◌}
use Rattle.records.proofs.TakeLaws.{data_cut, data_1, data_2, data_4, data_else}
use Rattle.records.proofs.data.data_in.Goals as goal

pub returns-then-rest-size : goal.returns-then-rest-size
returns-then-rest-size c = data_cut _ _ c.if-rest-size.true

pub returns-in-1 : goal.returns-in-1
returns-in-1 c = c.two.ensures ∙ data_1 _ _ c.if-rest-size.false c.in-1.is

pub returns-in-2 : goal.returns-in-2
returns-in-2 c = c.two_at.ensures ∙ data_2 _ _ c.if-rest-size.false c.in-2.is

pub returns-in-4 : goal.returns-in-4
returns-in-4 c = c.four_at.ensures ∙ data_4 _ _ c.if-rest-size.false c.in-4.is

pub returns-in_default : goal.returns-in_default
returns-in_default c = data_else _ _ c.if-rest-size.false c.in_default.in_default-own.rest.0.0.1 c.in_default.in_default-own.rest.0.1 c.in_default.in_default-own.rest.1
