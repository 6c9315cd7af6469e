-- Each turn goes on from what the one before left.
-- Assumes nothing.
use Rattle.std.proofs.Common.{arith}
use Rattle.session.proofs.Program.{begun, turned}
use Rattle.session.proofs.Carrying.{none_yet, carried_on, longer}
use Rattle.session.proofs.serve.Goals as goal

pub loop-turn-init : goal.loop-turn-init
loop-turn-init g c = record { looped = begun; noted = λ ok. ok; carried = λ ok. (none_yet, omega arith) }

pub returns-then-not-turn-clause-carried : goal.returns-then-not-turn-clause-carried
returns-then-not-turn-clause-carried g c = λ ok.
    let t = c.turn.ensures in
    let before = c.loop-turn.invariant.carried (t.noted ok) in
    let more = t.carried ok in
    record { carried = carried_on before.0 more; ended = λ _. more.ended c.if-not-turn.true }

pub loop-turn-preserved : goal.loop-turn-preserved
loop-turn-preserved g c =
    let t = c.turn.ensures in
    let i = c.loop-turn.invariant in
    record {
      looped = turned i.looped t.turned;
      noted = λ ok. i.noted (t.noted ok);
      carried = λ ok.
          let before = i.carried (t.noted ok) in
          let more = t.carried ok in
          let some = more.some c.if-not-turn.false in
          (carried_on before.0 more, omega (arith, before.1, longer before.0 more));
    }

pub returns-clause-carried : goal.returns-clause-carried
returns-clause-carried g c = λ ok.
    let (all, many) = c.loop-turn.invariant.carried ok in
    record { carried = all; ended = λ short. absurd (omega arith) }
