-- `judging::chains::lower` meets its contract: a role has its neighbours at fixed distances (`ChainLaws`).
-- Assumes nothing.
use mathlib.Core.Path.{refl, sym}
use mathlib.Core.Bool.{false}
use mathlib.Core.List.{[], ◌∷◌}
use borrow.Author.Rules.{rules}
use Rattle.numbers.specs.Choice.{first}
use Rattle.dictionary.proofs.Tabulate.{tabulate}
use Rattle.roles.specs.Roles.{lower_by, alone}
use Rattle.roles.specs.declared.types.Link.TheVariants.{Free}
use Rattle.roles.specs.declared.types.Role.TheVariants.{InnerX, LastX, EcHigh, MathHigh, PvHigh, FvHigh, LineHigh, LineLow, SpanHigh}
use Rattle.roles.proofs.Cases.{named, left, nth, place, among}
use Rattle.entries.proofs.judging.ChainLaws.{beneath}
use Rattle.entries.proofs.judging.chains.lower.Goals as goal

pub overflow_sub-result : goal.overflow_sub-result
unfolding alone
overflow_sub-result c = let near = c.requires.near (sym (named alone false (InnerX ∷ []) c.in-InnerX.is refl)) in let low = near.0 in let high = near.1 in search rules

pub overflow_sub-result-in-LastX : goal.overflow_sub-result-in-LastX
unfolding alone
overflow_sub-result-in-LastX c = let near = c.requires.near (sym (named alone false (LastX ∷ []) c.in-LastX.is refl)) in let low = near.0 in let high = near.1 in search rules

pub overflow_sub-result-in-EcHigh : goal.overflow_sub-result-in-EcHigh
unfolding alone
overflow_sub-result-in-EcHigh c = let near = c.requires.near (sym (named alone false (EcHigh ∷ []) c.in-EcHigh.is refl)) in let low = near.0 in let high = near.1 in search rules

pub overflow_sub-result-in-MathHigh : goal.overflow_sub-result-in-MathHigh
unfolding alone
overflow_sub-result-in-MathHigh c = let near = c.requires.near (sym (named alone false (MathHigh ∷ []) c.in-MathHigh.is refl)) in let low = near.0 in let high = near.1 in search rules

pub overflow_sub-result-in-PvHigh : goal.overflow_sub-result-in-PvHigh
unfolding alone
overflow_sub-result-in-PvHigh c = let near = c.requires.near (sym (named alone false (PvHigh ∷ FvHigh ∷ LineHigh ∷ []) c.in-PvHigh.is refl)) in let low = near.0 in let high = near.1 in search rules

pub overflow_add-result : goal.overflow_add-result
unfolding alone
overflow_add-result c = let near = c.requires.near (sym (named alone false (LineLow ∷ []) c.in-LineLow.is refl)) in let low = near.0 in let high = near.1 in search rules

pub overflow_sub-result-in-SpanHigh : goal.overflow_sub-result-in-SpanHigh
unfolding alone
overflow_sub-result-in-SpanHigh c = let near = c.requires.near (sym (named alone false (SpanHigh ∷ []) c.in-SpanHigh.is refl)) in let low = near.0 in let high = near.1 in search rules

pub returns-in-InnerX : goal.returns-in-InnerX
unfolding lower_by
returns-in-InnerX c = let slot = c.args.slot in beneath c.requires (named (λ r. lower_by r slot) _ (InnerX ∷ []) c.in-InnerX.is refl)

pub returns-in-LastX : goal.returns-in-LastX
unfolding lower_by
returns-in-LastX c = let slot = c.args.slot in beneath c.requires (named (λ r. lower_by r slot) _ (LastX ∷ []) c.in-LastX.is refl)

pub returns-in-EcHigh : goal.returns-in-EcHigh
unfolding lower_by
returns-in-EcHigh c = let slot = c.args.slot in beneath c.requires (named (λ r. lower_by r slot) _ (EcHigh ∷ []) c.in-EcHigh.is refl)

pub returns-in-MathHigh : goal.returns-in-MathHigh
unfolding lower_by
returns-in-MathHigh c = let slot = c.args.slot in beneath c.requires (named (λ r. lower_by r slot) _ (MathHigh ∷ []) c.in-MathHigh.is refl)

pub returns-in-PvHigh : goal.returns-in-PvHigh
unfolding lower_by
returns-in-PvHigh c = let slot = c.args.slot in beneath c.requires (named (λ r. lower_by r slot) _ (PvHigh ∷ FvHigh ∷ LineHigh ∷ []) c.in-PvHigh.is refl)

pub returns-in-LineLow : goal.returns-in-LineLow
unfolding lower_by
returns-in-LineLow c = let slot = c.args.slot in beneath c.requires (named (λ r. lower_by r slot) _ (LineLow ∷ []) c.in-LineLow.is refl)

pub returns-in-SpanHigh : goal.returns-in-SpanHigh
unfolding lower_by
returns-in-SpanHigh c = let slot = c.args.slot in beneath c.requires (named (λ r. lower_by r slot) _ (SpanHigh ∷ []) c.in-SpanHigh.is refl)

pub returns-in_default : goal.returns-in_default
unfolding lower_by tabulate first nth place among
returns-in_default c =
    let slot = c.args.slot in
    let d = c.in_default in
    beneath c.requires (left (λ r. lower_by r slot) Free (InnerX ∷ LastX ∷ EcHigh ∷ MathHigh ∷ PvHigh ∷ FvHigh ∷ LineHigh ∷ LineLow ∷ SpanHigh ∷ []) _ refl d.not-InnerX d.not-LastX d.not-EcHigh d.not-MathHigh d.not-PvHigh d.not-FvHigh d.not-LineHigh d.not-LineLow d.not-SpanHigh)
