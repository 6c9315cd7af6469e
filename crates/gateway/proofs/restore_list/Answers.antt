-- `gateway::restore_list` meets its contract (`ToldLaws`).
-- Assumes nothing.
use mathlib.Core.Path.{sym, ap, ◌∙◌}
use native.Mathlib.Omega.{arith}
use borrow.Author.Rules.{sfits_of}
use lib.IntN.{pos}
use mir.Facts.{to_z-of_z}
use mir.Syntax.{w32}
use Rattle.gateway.specs.Restored.{told}
use Rattle.gateway.proofs.ToldLaws.{as_told, done_short}
use Rattle.gateway.proofs.restore_list.Goals as goal

pub overflow_cast-result : goal.overflow_cast-result
overflow_cast-result c = omega (arith, done_short c.make_list.ensures c.in-Ok.is)

pub returns-in-Ok : goal.returns-in-Ok
unfolding told
returns-in-Ok c =
    let short = done_short c.make_list.ensures c.in-Ok.is in
    as_told c.make_list.ensures (to_z-of_z {w = w32} {z = pos c.in-Ok.n} (record { sfits = omega arith }) ∙ ap told (sym c.in-Ok.is))

pub returns-in-Err : goal.returns-in-Err
returns-in-Err c = as_told c.make_list.ensures (to_z-of_z {w = w32} (sfits_of c.number_of.type_inv) ∙ c.number_of.ensures ∙ ap told (sym c.in-Err.is))
