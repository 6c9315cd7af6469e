-- What is kept, by cases of the run and of the flag: without a flag the band decides nothing.
-- Assumes nothing.
use Prim.Native.Nat.{◌+◌, ◌≤◌, ◌<◌}
use mathlib.Core.Bool.{false}
use mathlib.Core.Path.{◌≡◌, refl}
use borrow.Author.Tests.{le-leb, lt-leb}
use lib.Dec.{leb}
use native.Mathlib.Omega.{arith}
use Rattle.numbers.specs.Choice.{first}
use Rattle.input.specs.Input.{run_after, clears, flagged_after, kept}
use Rattle.numbers.proofs.ExactLaws.{read}
use Rattle.numbers.proofs.Choices.{either, opposite}
use Rattle.input.proofs.keep.Goals as goal
use Rattle.input.proofs.keep.Goals.{After-counted-run, Else-from-run}

-- the run that was counted
run_of : (c : After-counted-run) → run_after c.before.args.s c.before.args.memory.run c.before.args.sample ≡ c.counted-run.result
run_of c = read (run_after c.before.args.s c.before.args.memory.run) c.before.ranges.sample c.counted-run.ensures refl

-- a run of at most the delay raises no flag
early : (c : Else-from-run) → leb (c.before.before.before.args.s.delay + 1) c.before.before.counted-run.result ≡ false
early c =
    let few : c.before.before.counted-run.result < c.before.before.before.args.s.delay + 1 = omega arith in
    lt-leb _ _ few

pub returns-then-from-run : goal.returns-then-from-run
unfolding kept flagged_after first
returns-then-from-run c =
    let late : c.args.s.delay + 1 ≤ c.counted-run.result = omega arith in
    rw (run_of (goal.at.returns-then-from-run c).After-counted-run, le-leb _ _ late)

pub returns-then-memory : goal.returns-then-memory
unfolding kept flagged_after first
returns-then-memory c =
    let cleared = read (clears c.args.s) c.ranges.sample c.does_clear.ensures refl in
    rw (run_of (goal.at.returns-then-memory c).After-counted-run, early (goal.at.returns-then-memory c).Else-from-run, cleared, c.if-memory.true, opposite c.does_clear.result)

pub returns : goal.returns
unfolding kept flagged_after first
returns c =
    let a = c.args in
    rw (run_of (goal.at.returns c).After-counted-run, early (goal.at.returns c).Else-from-run, c.if-memory.false, either (clears a.s a.sample) false)
