-- The words of output k + 1 are the k-th of their kind.
-- Assumes nothing.
use Prim.Native.Nat.{◌+◌, ◌-◌}
use mathlib.Core.Path.{◌≡◌}
use native.Mathlib.Omega.{arith}
use borrow.Author.Tests.{eq-eqb, ne_eqb}
use mir.Facts.{to_z-of_z}
use mir.Syntax.{w16}
use mir.Val.{SFits}
use Rattle.numbers.specs.Choice.{first}
use Rattle.dictionary.specs.Unit.{ramp_start_at, ramp_rising_at, ramp_fv1_at, ramp_fv2_at, ramp_used_at}
use Rattle.output.specs.Outputs.{noted}
use Rattle.unit.proofs.Flags.{flag_is}
use borrow.Author.Rules.{rules}
use Rattle.output.proofs.ramps.note.Goals as goal
use Rattle.output.proofs.ramps.note.Goals.{After-struct_told-1, After-struct_told-2-1, After-struct_told-3-1}

pub returns-then-m-ne1 : goal.returns-then-m-ne1
unfolding first
returns-then-m-ne1 c = rw (ne_eqb _ 1 c.if-m-ne1.true)

-- what the struct's fields fit, found where little else is in reach
start_fits : (c : After-struct_told-1) → SFits w16 c.before.before.before.args.m.start
start_fits c = search rules

low_fits : (c : After-struct_told-2-1) → SFits w16 c.before.before.before.before.before.before.args.m.fv1
low_fits c = search rules

high_fits : (c : After-struct_told-3-1) → SFits w16 c.before.before.before.before.before.before.before.before.args.m.fv2
high_fits c = search rules

pub returns : goal.returns
unfolding noted first ramp_start_at ramp_rising_at ramp_fv1_at ramp_fv2_at ramp_used_at
returns c = let a = c.args in
    let e : a.k + 1 - 1 ≡ a.k = omega arith in
    rw (
      eq-eqb _ 1 c.if-m-ne1.false,
      e,
      c.pattern.ensures,
      c.from.ensures,
      flag_is c.args.m.rising,
      c.pattern-2.ensures,
      c.pattern-3.ensures,
      c.from-2.ensures,
      to_z-of_z (start_fits (goal.at.returns c).After-struct_told-1),
      to_z-of_z (low_fits (goal.at.returns c).After-struct_told-2-1),
      to_z-of_z (high_fits (goal.at.returns c).After-struct_told-3-1),
    )
