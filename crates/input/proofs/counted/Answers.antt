-- The run by cases of `is_out`: one more up to the largest, or over.
use native.Mathlib.Omega.{arith}
use Rattle.numbers.specs.Choice.{first}
use Rattle.input.specs.Input.{run_after, out}
use Rattle.numbers.proofs.ExactLaws.{read}
use Rattle.input.proofs.counted.Goals as goal

pub returns-then-is_out : goal.returns-then-is_out
unfolding run_after first
returns-then-is_out c = rw (read (out c.args.s) c.ranges.sample c.is_out.ensures c.if-is_out.true) (omega arith)

pub returns : goal.returns
unfolding run_after first
returns c = rw (read (out c.args.s) c.ranges.sample c.is_out.ensures c.if-is_out.false)
