-- By where the block stands.
-- Assumes nothing.
use mathlib.Core.Path.{sym, ap, ◌∙◌}
use native.Mathlib.Omega.{arith}
use Rattle.why.specs.Seen.{before_row}
use Rattle.why.proofs.Places.{a_row, no_row, saw_none, saw_now, saw_before}
use Rattle.why.proofs.seeing.seen.Goals as goal

pub returns-in_default : goal.returns-in_default
returns-in_default c = c.look_up.ensures ∙ saw_none _ _ _ (no_row _ (sym c.in_default.is ∙ c.block_of.ensures))

pub returns-then-block-row : goal.returns-then-block-row
returns-then-block-row c =
    let w = a_row _ (sym c.in-Some.is ∙ c.block_of.ensures) in
    c.look_up-then-block-row.ensures ∙ saw_now _ _ _ (omega (arith, w.0))

pub found-requires : goal.found-requires
found-requires c = let w = a_row _ (sym c.in-Some.is ∙ c.block_of.ensures) in omega (arith, w.0, w.1)

pub returns : goal.returns
returns c =
    let w = a_row _ (sym c.in-Some.is ∙ c.block_of.ensures) in
    c.found.ensures ∙ ap (before_row c.args.unit.now) w.0 ∙ saw_before _ _ _ (omega (arith, w.0)) w.1
