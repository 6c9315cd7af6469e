-- The entries before i are moved on: of the new entry and the old ones behind it the first i are stored, and the next one is at hand.
-- Assumes nothing.
use Prim.Native.Nat.{ℕ, ◌+◌, ◌*◌, ◌<◌, min}
use native.Mathlib.Numerals.{add-one}
use mathlib.Core.List.{List}
use mathlib.Core.Path.{◌≡◌, refl, sym, ap, ◌∙◌}
use native.Mathlib.Omega.{arith}
use lib.ListN.{length, get_or, length-set}
use lib.Seq.{get_or-drop}
use borrow.Author.Rules.{rules}
use Rattle.dictionary.specs.Names.{words}
use Rattle.dictionary.specs.Unit.{signals_at, runs_at, flags_at, unit_size}
use Rattle.input.proofs.ErrorLaws.{pushed_on, not_yet, entered_by}
use Rattle.input.proofs.errors.enter.Goals as goal

pub loop-i-init : goal.loop-i-init
loop-i-init c = (omega arith, refl, refl, refl)

pub bounds-words-i : goal.bounds-words-i
unfolding unit_size flags_at runs_at signals_at words
bounds-words-i c = search rules

pub bounds-words-i-in-loop-i : goal.bounds-words-i-in-loop-i
unfolding unit_size flags_at runs_at signals_at words
bounds-words-i-in-loop-i c = search rules

pub loop-i-preserved : goal.loop-i-preserved
unfolding unit_size flags_at runs_at signals_at words
loop-i-preserved c =
    let at = c.loop-i in
    let u = c.args.words.now in
    let i = at.i in
    let e = 0xFF00 + 0x10000 * (c.args.k + 1) in
    let h : 653 + i < length u = omega (arith, c.requires) in (
      omega arith,
      length-set at.words (653 + i) at.next ∙ at.invariant.1,
      rw (at.invariant.2, at.invariant.3) (pushed_on u 653 e i h),
      ap (λ (l : List ℕ). get_or l (653 + i) 0) at.invariant.2 ∙ not_yet u 653 e i h ∙ rw (add-one i) (sym (get_or-drop 653 u i 0)),
    )

pub bounds-words-623 : goal.bounds-words-623
unfolding unit_size flags_at runs_at signals_at words
bounds-words-623 c = search rules

pub bounds-words-623-2 : goal.bounds-words-623-2
unfolding unit_size flags_at runs_at signals_at words
bounds-words-623-2 c = search rules

pub shape_of-words : goal.shape_of-words
shape_of-words c = length-set c.loop-i.words 623 c.min.result ∙ c.loop-i.invariant.1

pub returns : goal.returns
returns c = let at = c.loop-i in
    let kept : c.min.result ≡ min (get_or at.words 623 0 + 1) 8 = omega arith in
    entered_by _ at.words at.i _ _ (omega arith) at.invariant.2 kept
