-- A line by its leading letter and space.
-- Assumes nothing.
use Prim.Native.Nat.{ℕ}
use mathlib.Core.List.{List}
use mathlib.Core.Path.{sym, ap, ◌∙◌}
use native.Mathlib.Omega.{arith}
use Rattle.printer.specs.Reading.{fields, unknown, asked_frame, asked_tick}
use Rattle.printer.proofs.Cutting.{tail}
use Rattle.printer.proofs.Lines.{line_short, line_frame, line_tick, line_none}
use Rattle.printer.proofs.reading.read.Goals as goal

pub returns-in-83 : goal.returns-in-83
returns-in-83 c = let l = c.args.line.now in c.frame.ensures ∙ ap (λ (d : List ℕ). asked_frame (fields d)) (tail 2 l) ∙ sym (line_frame l (omega arith) (omega arith) (omega arith))

pub returns-in-84 : goal.returns-in-84
returns-in-84 c = let l = c.args.line.now in c.tick.ensures ∙ ap (λ (d : List ℕ). asked_tick (fields d)) (tail 2 l) ∙ sym (line_tick l (omega arith) (omega arith) (omega arith))

pub returns-in_default : goal.returns-in_default
unfolding unknown
returns-in_default c = sym (line_short _ (omega arith))

pub returns-in_default-2 : goal.returns-in_default-2
unfolding unknown
returns-in_default-2 c = sym (line_none _ (λ e s. omega arith) (λ e s. omega arith))

pub returns-in_default-3 : goal.returns-in_default-3
unfolding unknown
returns-in_default-3 c = sym (line_none _ (λ e s. omega arith) (λ e s. omega arith))

pub returns-in_default-4 : goal.returns-in_default-4
unfolding unknown
returns-in_default-4 c = sym (line_none _ (λ e s. omega arith) (λ e s. omega arith))
