-- `deciding::offer` meets its contract: each return is the row that its tests choose (`AnswerLaws`).
-- Assumes nothing.
use mathlib.Core.Path.{sym, ◌∙◌}
use native.Mathlib.Omega.{arith}
use Rattle.std.proofs.lemmas.Result.{err_from_is_err_and}
use Rattle.dictionary.specs.Names.{writable}
use Rattle.sdo.specs.Answers.{size_of}
use Rattle.sdo.proofs.AnswerLaws.{own_bytes, length_is, read_only, too_long, too_short, faulty, not_clear, written}
use Rattle.sdo.proofs.deciding.offer.Goals as goal

pub returns-then-slot-ge-ERROR_REGISTER : goal.returns-then-slot-ge-ERROR_REGISTER
unfolding writable
returns-then-slot-ge-ERROR_REGISTER c = read_only _ _ _ _ c.if-slot-ge-ERROR_REGISTER.true

pub returns-then-own-length : goal.returns-then-own-length
unfolding writable size_of
returns-then-own-length c =
    too_long _ _ _ _ c.if-slot-ge-ERROR_REGISTER.false _ _ c.width-own.ensures (length_is _ _ c.unwrap_or-length.ensures) c.if-own-length.true

pub returns-then-length-own : goal.returns-then-length-own
unfolding writable size_of
returns-then-length-own c =
    too_short _ _ _ _ c.if-slot-ge-ERROR_REGISTER.false _ _ c.width-own.ensures (length_is _ _ c.unwrap_or-length.ensures) c.if-length-own.true

pub data_in-word-requires : goal.data_in-word-requires
unfolding size_of
data_in-word-requires c = own_bytes _ c.width-own.ensures

pub returns-in_err-judge : goal.returns-in_err-judge
unfolding writable size_of
returns-in_err-judge c =
    let p = err_from_is_err_and c.from_residual.result c.from_residual.ensures.1 in
    rw (p.1, p.2)
    (faulty _ _ _ _ c.if-slot-ge-ERROR_REGISTER.false _ _ c.width-own.ensures (length_is _ _ c.unwrap_or-length.ensures) (omega arith) _ c.data_in-word.ensures _ (sym c.judge.ensures ∙ c.in_err-judge.was))

pub returns-then-is_unclear : goal.returns-then-is_unclear
unfolding writable size_of
returns-then-is_unclear c =
    not_clear _ _ _ _ c.if-slot-ge-ERROR_REGISTER.false _ _ c.width-own.ensures (length_is _ _ c.unwrap_or-length.ensures) (omega arith) _ c.data_in-word.ensures
    (sym c.judge.ensures ∙ c.in_ok-judge.was) (sym c.is_unclear.ensures ∙ c.if-is_unclear.true)

pub returns : goal.returns
unfolding writable size_of
returns c =
    written _ _ _ _ c.if-slot-ge-ERROR_REGISTER.false _ _ c.width-own.ensures (length_is _ _ c.unwrap_or-length.ensures) (omega arith) _ c.data_in-word.ensures
    (sym c.judge.ensures ∙ c.in_ok-judge.was) (sym c.is_unclear.ensures ∙ c.if-is_unclear.false)
