-- What is kept decides: its flag gives the error, else the line.
use mathlib.Core.Path.{refl}
use Rattle.numbers.specs.Choice.{first}
use Rattle.input.specs.Input.{kept, process, sensed, signal_of, reads_of}
use Rattle.numbers.proofs.ExactLaws.{read, back}
use Rattle.input.proofs.InputLaws.{kept_flag}
use Rattle.input.proofs.sense.Goals as goal

pub returns-then-after : goal.returns-then-after
unfolding sensed signal_of reads_of first
returns-then-after c =
    let a = c.args in
    let after = read (kept a.settings a.memory) c.ranges.sample c.keep-after.ensures refl in
    rw (after, kept_flag a.settings a.memory a.sample after, c.if-after.true)

pub returns : goal.returns
unfolding sensed signal_of reads_of first
returns c =
    let a = c.args in
    let after = read (kept a.settings a.memory) c.ranges.sample c.keep-after.ensures refl in
    let pv = read (process a.settings) c.ranges.sample c.scaled-pv.ensures refl in
    rw (after, kept_flag a.settings a.memory a.sample after, c.if-after.false, pv, back c.scaled-pv.type_inv refl)
