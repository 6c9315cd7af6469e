-- `judging::chains::upper` meets its contract: a role has its neighbours at fixed distances (`ChainLaws`).
-- Assumes nothing.
use mathlib.Core.Path.{refl, sym}
use mathlib.Core.Bool.{false}
use mathlib.Core.List.{[], ◌∷◌}
use borrow.Author.Rules.{rules}
use Rattle.numbers.specs.Choice.{first}
use Rattle.dictionary.proofs.Tabulate.{tabulate}
use Rattle.roles.specs.Roles.{upper_by, alone}
use Rattle.roles.specs.declared.types.Link.TheVariants.{Free}
use Rattle.roles.specs.declared.types.Role.TheVariants.{FirstX, InnerX, EcLow, MathLow, PvLow, FvLow, LineLow, LineHigh, SpanLow}
use Rattle.roles.proofs.Cases.{named, left, nth, place, among}
use Rattle.entries.proofs.judging.ChainLaws.{above}
use Rattle.entries.proofs.judging.chains.upper.Goals as goal

pub overflow_add-result : goal.overflow_add-result
unfolding alone
overflow_add-result c = let near = c.requires.near (sym (named alone false (FirstX ∷ InnerX ∷ []) c.in-FirstX.is refl)) in let low = near.0 in let high = near.1 in search rules

pub overflow_add-result-in-EcLow : goal.overflow_add-result-in-EcLow
unfolding alone
overflow_add-result-in-EcLow c = let near = c.requires.near (sym (named alone false (EcLow ∷ []) c.in-EcLow.is refl)) in let low = near.0 in let high = near.1 in search rules

pub overflow_add-result-in-MathLow : goal.overflow_add-result-in-MathLow
unfolding alone
overflow_add-result-in-MathLow c = let near = c.requires.near (sym (named alone false (MathLow ∷ []) c.in-MathLow.is refl)) in let low = near.0 in let high = near.1 in search rules

pub overflow_add-result-in-PvLow : goal.overflow_add-result-in-PvLow
unfolding alone
overflow_add-result-in-PvLow c = let near = c.requires.near (sym (named alone false (PvLow ∷ FvLow ∷ LineLow ∷ []) c.in-PvLow.is refl)) in let low = near.0 in let high = near.1 in search rules

pub overflow_add-result-in-LineHigh : goal.overflow_add-result-in-LineHigh
unfolding alone
overflow_add-result-in-LineHigh c = let near = c.requires.near (sym (named alone false (LineHigh ∷ []) c.in-LineHigh.is refl)) in let low = near.0 in let high = near.1 in search rules

pub overflow_sub-result : goal.overflow_sub-result
unfolding alone
overflow_sub-result c = let near = c.requires.near (sym (named alone false (SpanLow ∷ []) c.in-SpanLow.is refl)) in let low = near.0 in let high = near.1 in search rules

pub returns-in-FirstX : goal.returns-in-FirstX
unfolding upper_by
returns-in-FirstX c = let slot = c.args.slot in above c.requires (named (λ r. upper_by r slot) _ (FirstX ∷ InnerX ∷ []) c.in-FirstX.is refl)

pub returns-in-EcLow : goal.returns-in-EcLow
unfolding upper_by
returns-in-EcLow c = let slot = c.args.slot in above c.requires (named (λ r. upper_by r slot) _ (EcLow ∷ []) c.in-EcLow.is refl)

pub returns-in-MathLow : goal.returns-in-MathLow
unfolding upper_by
returns-in-MathLow c = let slot = c.args.slot in above c.requires (named (λ r. upper_by r slot) _ (MathLow ∷ []) c.in-MathLow.is refl)

pub returns-in-PvLow : goal.returns-in-PvLow
unfolding upper_by
returns-in-PvLow c = let slot = c.args.slot in above c.requires (named (λ r. upper_by r slot) _ (PvLow ∷ FvLow ∷ LineLow ∷ []) c.in-PvLow.is refl)

pub returns-in-LineHigh : goal.returns-in-LineHigh
unfolding upper_by
returns-in-LineHigh c = let slot = c.args.slot in above c.requires (named (λ r. upper_by r slot) _ (LineHigh ∷ []) c.in-LineHigh.is refl)

pub returns-in-SpanLow : goal.returns-in-SpanLow
unfolding upper_by
returns-in-SpanLow c = let slot = c.args.slot in above c.requires (named (λ r. upper_by r slot) _ (SpanLow ∷ []) c.in-SpanLow.is refl)

pub returns-in_default : goal.returns-in_default
unfolding upper_by tabulate first nth place among
returns-in_default c =
    let slot = c.args.slot in
    let d = c.in_default in
    above c.requires (left (λ r. upper_by r slot) Free (FirstX ∷ InnerX ∷ EcLow ∷ MathLow ∷ PvLow ∷ FvLow ∷ LineLow ∷ LineHigh ∷ SpanLow ∷ []) _ refl d.not-FirstX d.not-InnerX d.not-EcLow d.not-MathLow d.not-PvLow d.not-FvLow d.not-LineLow d.not-LineHigh d.not-SpanLow)
