-- The inputs before k are done: the unit is theirs.
-- Assumes nothing.
use Prim.Native.Nat.{◌+◌, ◌-◌, ◌<◌}
use mathlib.Core.Path.{◌≡◌, refl, ◌∙◌}
use native.Mathlib.Nat.{zero-add}
use native.Mathlib.Omega.{arith}
use lib.IntN.{pos}
use lib.ListN.{get_or}
use mir.Facts.{to_z-of_z}
use mir.Syntax.{w16}
use mir.Val.{SFits}
use Rattle.input.specs.Input.{sensed}
use Rattle.unit.proofs.Slots.{has, array}
use Rattle.unit.proofs.Each.{more, done}
use Rattle.unit.specs.Each.{each}
use Rattle.unit.specs.Entry.{publish}
use Rattle.unit.specs.Held.{lay}
use Rattle.input.specs.Inputs.{settings, memory, input_turn}
use borrow.Author.Rules.{rules}
use Rattle.input.proofs.turns.inputs.Goals as goal
use Rattle.input.proofs.turns.inputs.Goals.{After-sense-after}

-- what the input makes of its sample
after : (c : After-sense-after) → let u = c.loop-row.unit in
    let k = c.loop-row.row in
    c.sense-after.result ≡ sensed (settings u (k + 1)) (memory u (k + 1)) (get_or c.args.samples k (pos 0))
after c = let given : SFits w16 (get_or c.args.samples c.loop-row.row (pos 0)) = search rules in
    rw (← c.memory-before.ensures, ← c.settings_of.ensures) (c.sense-after.ensures ∙ rw (to_z-of_z given))

pub loop-row-init : goal.loop-row-init
unfolding each
loop-row-init c = (omega arith, refl)

pub loop-row-preserved : goal.loop-row-preserved
unfolding input_turn publish lay has
loop-row-preserved c = let k = c.loop-row.row in
    let samples = c.args.samples in
    let e : k + 1 - 1 ≡ k = omega arith in
    let h : k < 4 = omega arith in
    let given : SFits w16 (get_or samples k (pos 0)) = search rules in
    let fits : SFits w16 c.sense-after.result.reads = search rules in (
      omega arith,
      c.remember.ensures
          ∙ rw (
            more (λ n. input_turn (get_or samples (n - 1) (pos 0)) n) _ k,
            ← c.loop-row.invariant.1,
            e,
            zero-add k,
            array 0x7100 refl k h,
            array 0x7130 refl k h,
            c.note.ensures,
            c.lay.ensures,
            c.pattern.ensures,
            c.pattern-in-loop-row.ensures,
            to_z-of_z given,
            to_z-of_z fits,
            after (goal.at.loop-row-preserved c).After-sense-after,
            c.memory-before.ensures,
          ),
    )

pub returns : goal.returns
returns c = done (λ n. input_turn (get_or c.args.samples (n - 1) (pos 0)) n) _ c.loop-row.row 4 (omega arith) c.loop-row.invariant.1
