-- Each turn goes on from what the one before left; a turn that is not the last reads a byte or more.
-- Assumes nothing.
use Rattle.std.proofs.Common.{◌≤◌, length, IsOk}
use Rattle.session.specs.Dialogue.{kept_of}
use Rattle.session.specs.Program.{Looped}
use Rattle.session.specs.Carried.{Carried}
use Rattle.session.proofs.serve.Given as goal

abbrev pub invariant-loop-turn : goal.invariant-loop-turn
invariant-loop-turn g l = record {
  looped : Looped (kept_of l.initial.unit l.initial.line) (kept_of l.unit l.line);
  noted : IsOk l.outcome → IsOk l.initial.outcome;
  carried : IsOk l.outcome
      → (s : Carried (kept_of l.initial.unit l.initial.line) (g.R.Read.remaining l.initial.reader) (g.W.Write.contents l.initial.writer) (kept_of l.unit l.line) (g.R.Read.remaining l.reader) (g.W.Write.contents l.writer))
      × (l._turn ≤ length s.input);
}
