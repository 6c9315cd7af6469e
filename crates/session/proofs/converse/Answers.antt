-- What the loop and the end of the input wrote is what the whole input prints.
-- Assumes nothing.
use Rattle.std.proofs.Common.{refl, replicate}
use Rattle.session.proofs.Carrying.{whole_session, on_ok}
use Rattle.session.proofs.converse.Goals as goal

pub returns : goal.returns
returns g c = on_ok _ _ (λ ok.
    let noted = c.say.ensures.noted ok in
    whole_session _ _ _ _ _ (rw c.new-line.ensures at (c.serve.ensures.carried noted)) c.start-unit.ensures refl
    (record {
      left = c.close-printed.new.unit;
      text = replicate 64 0;
      text' = c.close-printed.new.text;
      printed = c.close-printed.result;
      lent = refl;
      answered = c.close-printed.ensures;
      wrote = refl;
    })
    (c.say.ensures.bytes ok))
