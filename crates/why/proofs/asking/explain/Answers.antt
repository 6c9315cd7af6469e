-- The signal, and for an error its trail (`Bytes`).
-- Assumes nothing.
use mathlib.Core.Path.{sym, ap, ◌∙◌}
use native.Mathlib.Omega.{arith}
use Rattle.signals.specs.Signal.{is_error}
use Rattle.why.proofs.Bytes.{kind_small, with_trail, alone}
use Rattle.why.proofs.Places.{a_row, no_row, never_wrong}
use Rattle.why.proofs.asking.explain.Goals as goal

pub head-head-requires : goal.head-head-requires
head-head-requires c = kind_small _ c.kind_of.ensures

pub returns-in_default : goal.returns-in_default
returns-in_default c =
    alone _ _ _ c.signal_of-signal.ensures c.kind_of.ensures c.value.ensures c.head-head.ensures c.put.ensures
    (ap is_error c.signal_of-signal.ensures ∙ never_wrong _ _ (no_row _ (sym c.in_default.is ∙ c.block_of.ensures)))

pub put_trail-requires : goal.put_trail-requires
put_trail-requires c = let w = a_row _ (sym c.in-Some.is ∙ c.block_of.ensures) in (w.0, omega (arith, w.0, w.1))

pub returns-then-failed : goal.returns-then-failed
returns-then-failed c =
    with_trail _ _ _ c.signal_of-signal.ensures c.kind_of.ensures c.value.ensures c.head-head.ensures c.put.ensures
    (sym c.failed.ensures ∙ c.if-failed.true) c.put_trail.ensures

pub returns-else-failed : goal.returns-else-failed
returns-else-failed c =
    alone _ _ _ c.signal_of-signal.ensures c.kind_of.ensures c.value.ensures c.head-head.ensures c.put.ensures
    (sym c.failed.ensures ∙ c.if-failed.false)
