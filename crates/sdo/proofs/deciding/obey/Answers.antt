-- `deciding::obey` meets its contract: each return is the row that its tests choose (`AnswerLaws`).
-- Assumes nothing.
use mathlib.Core.Path.{sym, ◌∙◌}
use Rattle.std.proofs.lemmas.Result.{err_from_is_err_and}
use Rattle.sdo.specs.Answers.{obeyed}
use Rattle.sdo.proofs.AnswerLaws.{found_in_unit, no_name, a_read, a_write}
use Rattle.sdo.proofs.deciding.obey.Goals as goal

pub returns-in_err-command : goal.returns-in_err-command
unfolding obeyed
returns-in_err-command c =
    let p = err_from_is_err_and c.from_residual.result c.from_residual.ensures.1 in
    rw (p.1, p.2, ← c.command.ensures, c.in_err-command.was)

pub returns-in_err-named : goal.returns-in_err-named
returns-in_err-named c =
    let p = err_from_is_err_and c.from_residual-in_err-named.result c.from_residual-in_err-named.ensures.1 in
    rw (p.1, p.2)
    (no_name _ _ _ _ c.index_in.ensures c.sub_in.ensures _ (sym c.in_ok-command.was ∙ c.command.ensures) _ (sym c.in_err-named.was ∙ c.find.ensures))

pub read-requires : goal.read-requires
read-requires c = found_in_unit _ _ _ _ (sym c.in_ok-named.was ∙ c.find.ensures)

pub returns-in-Read : goal.returns-in-Read
returns-in-Read c =
    c.read.ensures ∙ a_read _ _ _ _ c.index_in.ensures c.sub_in.ensures _ (sym c.in_ok-command.was ∙ c.command.ensures) _ (sym c.in_ok-named.was ∙ c.find.ensures) c.in-Read.is

pub returns-in-Write : goal.returns-in-Write
returns-in-Write c =
    c.write.ensures ∙ a_write _ _ _ _ c.index_in.ensures c.sub_in.ensures _ (sym c.in_ok-command.was ∙ c.command.ensures) _ (sym c.in_ok-named.was ∙ c.find.ensures) _ c.in-Write.is
