-- `reading::check` meets its contract, test by test (`PlaceLaws`).
-- Assumes nothing.
use mathlib.Core.Path.{sym, ◌∙◌}
use Rattle.std.proofs.lemmas.Result.{err_from_is_err_and}
use Rattle.image.proofs.reading.PlaceLaws.{exact, not_walked, more_behind, ordered, disordered}
use Rattle.image.proofs.reading.check.Goals as goal

pub returns-in_err-n : goal.returns-in_err-n
returns-in_err-n c =
    let p = err_from_is_err_and c.from_residual.result c.from_residual.ensures.1 in
    rw (p.1, p.2) (not_walked c.args.image.now c.walk.ensures c.in_err-n.was)

pub returns-then-n-image : goal.returns-then-n-image
returns-then-n-image c =
    more_behind c.args.image.now _ c.walk.ensures c.in_ok-n.was c.if-n-image.true

pub in_order-requires : goal.in_order-requires
in_order-requires c =
    exact c.args.image.now (sym c.walk.ensures ∙ c.in_ok-n.was) c.if-n-image.false

pub returns-then-not-in_order : goal.returns-then-not-in_order
returns-then-not-in_order c =
    disordered c.args.image.now _ c.walk.ensures c.in_ok-n.was c.if-n-image.false c.in_order.ensures c.if-not-in_order.true

pub returns : goal.returns
returns c =
    ordered c.args.image.now _ c.walk.ensures c.in_ok-n.was c.if-n-image.false c.in_order.ensures c.if-not-in_order.false
