-- Where the error of a block comes from: what is told of it is so.
-- Assumes nothing.
use Prim.Native.Nat.{ℕ, ◌+◌, ◌-◌, ◌<◌, ◌≤◌}
use mathlib.Core.Bool.{Bool, true, false}
use mathlib.Core.List.{List}
use mathlib.Core.Logic.{◌⊎◌, inl, inr}
use mathlib.Core.Path.{◌≡◌, refl, sym, ap, ◌∙◌, subst}
use native.Mathlib.Omega.{arith}
use borrow.Author.Tests.{ltb-true, ltb-false}
use lib.Dec.{ltb, lit≤}
use lib.IntN.{ℤ}
use Rattle.numbers.specs.Choice.{first}
use Rattle.numbers.proofs.Choices.{chosen}
use Rattle.signals.specs.Signal.{is_error}
use Rattle.signals.specs.declared.signal.Signal.{Signal}
use Rattle.signals.specs.declared.signal.Signal.TheVariants.{Whole, Real, Error, Absent}
use Rattle.signals.proofs.SignalLaws.{real_error}
use Rattle.input.specs.Input.{signal_of}
use Rattle.math.specs.Division.{Divides}
use Rattle.math.specs.Maths.{operator}
use Rattle.math.proofs.Divisions.{by_division}
use Rattle.table.specs.Table.{looked_up}
use Rattle.table.proofs.TableLaws.{least_from, least_holds, least_before}
use Rattle.unit.specs.Entry.{entry, byte}
use Rattle.unit.specs.Held.{inputs, maths, tables, logics, blocks, held, at_row}
use Rattle.unit.specs.Sources.{sourced}
use Rattle.controller.specs.Saw.{Saw}
use Rattle.controller.specs.Shown.{Shown}
use Rattle.controller.specs.Turns.{operand_seen}
use Rattle.why.specs.Answer.{signal}
use Rattle.why.specs.Explains.{at_sight, in_error, Read, by_math, by_table, by_logic, Began, flagged, divided}
use Rattle.why.specs.Seen.{saw}
use Rattle.why.specs.Trail.{pair, math_pair, table_pair, logic_pair, wrong, lowest, math_next, next}
use Rattle.why.specs.declared.types.End.{End}
use Rattle.why.specs.declared.types.End.TheVariants.{Flagged, Divided}
use Rattle.why.specs.declared.types.Next.{Next}
use Rattle.why.specs.declared.types.Next.TheVariants.{Ends, Reads}
use Rattle.unit.specs.declared.pairs.Pair.{Pair}
use Rattle.why.proofs.Sights.{is_error_lem, by_tables}

-- what is told of a row's error
pub data Cause (before after : List ℕ) : ℕ → Next → Type 0 where
  ends : {row : ℕ} {e : End} → Began before after row e → Cause before after row (Ends e)
  reads : {row : ℕ} {p : Pair} → Read before after row p → saw after row p ≡ Error → Cause before after row (Reads p)

-- a flagged input alone is in error
was_flagged : (b : Bool) (v : ℤ) → signal_of b v ≡ Error → b ≡ true
unfolding signal_of first
was_flagged true v e = refl
was_flagged false v e = let z : ◌≡◌ {A = ℕ} 0 1 = cc in absurd (omega arith)

-- "X in error .. passes through"
passes : (response x y : List ℕ) (s : Signal) → looked_up response x y s ≡ Error → s ≡ Error
unfolding looked_up
passes response x y (Whole v) e = let z : ◌≡◌ {A = ℕ} 0 1 = cc in absurd (omega arith)
passes response x y (Real r) e = let z : ◌≡◌ {A = ℕ} 0 1 = cc in absurd (omega arith)
passes response x y Error e = refl
passes response x y Absent e = let z : ◌≡◌ {A = ℕ} 0 1 = cc in absurd (omega arith)

held_at : (unit : List ℕ) (kind k row : ℕ) → kind + k ≡ row → at_row unit row ≡ Error → held unit kind (k + 1) ≡ Error
unfolding held
held_at unit kind k row is e = let same : kind + (k + 1 - 1) ≡ row = omega arith in rw same e

module _ (samples : List ℤ) (before after : List ℕ) (sight : (r : ℕ) (p : Pair) → saw after r p ≡ at_sight before after r p) (saw-it : Saw samples before after) (shown : Shown samples after)
    (byte-sized : (k : ℕ) → k < 2 → byte after 0x4010 (k + 1) ≡ entry after 0x4010 (k + 1)) where
  input_cause : (k : ℕ) → k < 4 → at_row after (inputs + k) ≡ Error → Cause before after (inputs + k) (Ends Flagged)
  input_cause k h e = ends (flagged k h (was_flagged _ _ (sym (saw-it.input k h) ∙ held_at after inputs k (inputs + k) refl e)))

  table_cause : (k : ℕ) → k < 6 → at_row after (tables + k) ≡ Error → Cause before after (tables + k) (Reads (table_pair after (k + 1)))
  unfolding table_pair pair
  table_cause k h e =
      reads (by_table k h)
      (sight (tables + k) (table_pair after (k + 1)) ∙ passes _ _ _ _ (sym (saw-it.table k h) ∙ held_at after tables k (tables + k) refl e))

  logic_cause : (k : ℕ) → k < 2 → at_row after (logics + k) ≡ Error → Cause before after (logics + k) (Reads (logic_pair after (k + 1)))
  unfolding logic_pair signal
  logic_cause k h e =
      let wrong : signal after (logic_pair after (k + 1)) ≡ Error
      = ap (sourced after 3) (byte-sized k h) ∙ sym (shown.selected k h) ∙ held_at after logics k (logics + k) refl e in
      reads (by_logic k h) (by_tables after (logics + k) (byte after 0x4010 (k + 1)) (omega arith) wrong)

  module _ (k : ℕ) (h : k < 4) (e : at_row after (maths + k) ≡ Error) where
    told : (i : ℕ) {t : Bool} → wrong after k i ≡ t → in_error before after k i ≡ t
    unfolding wrong
    told i q = ap is_error (sym (sight (maths + k) (math_pair after (k + 1) i))) ∙ q

    operand_right : (i : ℕ) → in_error before after k i ≡ false → is_error (operand_seen before after k i).signal ≡ false
    unfolding operand_seen math_pair pair
    operand_right i q = real_error _ ∙ q

    -- no input in error
    by_zero : ((j : ℕ) → 1 ≤ j → j ≤ 4 → in_error before after k j ≡ false) → Began before after (maths + k) Divided
    by_zero right =
        which (by_division _ _ _ _ _ _ _ _ _ (sym (saw-it.math k h) ∙ held_at after maths k (maths + k) refl e)
        (operand_right 1 (right 1 (lit≤ tt) (lit≤ tt))) (operand_right 2 (right 2 (lit≤ tt) (lit≤ tt))) (operand_right 3 (right 3 (lit≤ tt) (lit≤ tt))) (operand_right 4 (right 4 (lit≤ tt) (lit≤ tt))))
      where
        which : Divides (operator after (k + 1) 1) (operand_seen before after k 2) ⊎ (Divides (operator after (k + 1) 2) (operand_seen before after k 3) ⊎ Divides (operator after (k + 1) 3) (operand_seen before after k 4))
            → Began before after (maths + k) Divided
        which (inl d) = divided k 1 h (lit≤ tt) (lit≤ tt) right d
        which (inr (inl d)) = divided k 2 h (lit≤ tt) (lit≤ tt) right d
        which (inr (inr d)) = divided k 3 h (lit≤ tt) (lit≤ tt) right d

    math_cause : Cause before after (maths + k) (math_next after k)
    unfolding math_next lowest wrong
    math_cause =
        chosen (Cause before after (maths + k)) (ltb (lowest after k) 5) _ _
        (λ q. let few = ltb-true (lowest after k) 5 q in
        reads (by_math k (lowest after k) h (least_from (wrong after k) 1 4) (omega arith) (λ j l m. told j (least_before (wrong after k) 1 4 j l m)))
        (is_error_lem _ (least_holds (wrong after k) 1 4 few)))
        (λ q. let all = ltb-false (lowest after k) 5 q in ends (by_zero (λ j l m. told j (least_before (wrong after k) 1 4 j l (omega arith)))))

  pub cause : (row : ℕ) → row < blocks → at_row after row ≡ Error → Cause before after row (next after row)
  unfolding next
  cause row h e =
      chosen (Cause before after row) (ltb row maths) _ _
      (λ q. let l = ltb-true row 4 q in let is : 0 + row ≡ row = omega arith in subst (λ (r : ℕ). Cause before after r (Ends Flagged)) is (input_cause row l (subst (λ (r : ℕ). at_row after r ≡ Error) (sym is) e)))
      (λ q. let g = ltb-false row 4 q in chosen (Cause before after row) (ltb row tables) _ _
      (λ q. let l = ltb-true row 8 q in let is : 4 + (row - 4) ≡ row = omega arith in
      subst (λ (r : ℕ). Cause before after r (math_next after (row - 4))) is (math_cause (row - 4) (omega arith) (subst (λ (r : ℕ). at_row after r ≡ Error) (sym is) e)))
      (λ q. let g = ltb-false row 8 q in chosen (Cause before after row) (ltb row logics) _ _
      (λ q. let l = ltb-true row 14 q in let is : 8 + (row - 8) ≡ row = omega arith in
      subst (λ (r : ℕ). Cause before after r (Reads (table_pair after (row - 8 + 1)))) is (table_cause (row - 8) (omega arith) (subst (λ (r : ℕ). at_row after r ≡ Error) (sym is) e)))
      (λ q. let g = ltb-false row 14 q in let is : 14 + (row - 14) ≡ row = omega arith in
      subst (λ (r : ℕ). Cause before after r (Reads (logic_pair after (row - 14 + 1)))) is (logic_cause (row - 14) (omega arith) (subst (λ (r : ℕ). at_row after r ≡ Error) (sym is) e)))))
