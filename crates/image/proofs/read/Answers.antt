-- `image::read` meets its contract: what the check finds decides.
-- Assumes nothing.
use mathlib.Core.Path.{sym, ◌∙◌}
use Rattle.std.proofs.lemmas.Result.{err_from_is_err_and}
use Rattle.image.specs.Loaded.{loaded}
use Rattle.dictionary.specs.Names.{configured}
use Rattle.dictionary.specs.Unit.{ticked_at, unticked}
use native.Mathlib.Omega.{arith}
use Rattle.image.proofs.read.Goals as goal

pub returns-in_err-check : goal.returns-in_err-check
unfolding loaded
returns-in_err-check c =
    let p = err_from_is_err_and c.from_residual.result c.from_residual.ensures.1 in
    let refused = sym c.check.ensures ∙ c.in_err-check.was in
    rw (p.1, p.2) (record { answered = sym refused; state = rw refused })

pub load-requires : goal.load-requires
unfolding configured
load-requires c = (sym c.check.ensures ∙ c.in_ok-check.was, omega arith)

pub returns : goal.returns
unfolding loaded unticked ticked_at
returns c =
    let good = sym c.check.ensures ∙ c.in_ok-check.was in record { answered = sym good; state = c.load.ensures ∙ rw good }
