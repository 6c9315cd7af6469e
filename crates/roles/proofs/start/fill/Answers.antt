-- Each word below the counter is the start's (`StartLaws`).
-- Assumes nothing.
use native.Mathlib.Omega.{arith}
use Rattle.dictionary.specs.Unit.{unit_size}
use Rattle.roles.proofs.StartLaws.{filled_none, filled_more, filled_whole}
use Rattle.roles.proofs.start.fill.Goals as goal

pub loop-row-init : goal.loop-row-init
loop-row-init c = filled_none _ c.requires

pub fresh-requires : goal.fresh-requires
unfolding unit_size
fresh-requires c = omega arith

pub offset_bounds-unit-slot : goal.offset_bounds-unit-slot
unfolding unit_size
offset_bounds-unit-slot c = omega arith

pub bounds-unit-slot : goal.bounds-unit-slot
unfolding unit_size
bounds-unit-slot c = omega arith

pub overflow_step-row : goal.overflow_step-row
unfolding unit_size
overflow_step-row c = omega arith

pub loop-row-smaller : goal.loop-row-smaller
unfolding unit_size
loop-row-smaller c = omega arith

pub loop-row-preserved : goal.loop-row-preserved
unfolding unit_size
loop-row-preserved c = filled_more _ _ _ (omega arith) c.loop-row.invariant c.fresh.ensures

pub returns : goal.returns
unfolding unit_size
returns c = filled_whole _ _ (omega arith) c.loop-row.invariant
