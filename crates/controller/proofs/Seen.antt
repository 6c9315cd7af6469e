-- What a pair (source, number) names at a block's turn.
-- Assumes nothing.
use Prim.Native.Nat.{ℕ, ◌%◌, ◌<◌, ◌≤◌}
use mathlib.Core.Bool.{Bool, true, false}
use mathlib.Core.List.{List}
use mathlib.Core.Logic.{inl, inr}
use mathlib.Core.Path.{◌≡◌, refl, sym, ap, ◌∙◌}
use native.Mathlib.Omega.{arith}
use borrow.Author.Tests.{eqb-true, eqb-false, ltb-true, ltb-false}
use lib.Dec.{eqb, ltb}
use lib.IntN.{ℤ}
use lib.ListN.{get_or}
use Rattle.numbers.specs.Choice.{first}
use Rattle.numbers.proofs.Choices.{chosen}
use Rattle.signals.specs.declared.signal.Signal.{Signal}
use Rattle.numbers.specs.Signed.{signed16}
use Rattle.signals.specs.declared.signal.Signal.TheVariants.{Whole, Real}
use Rattle.signals.specs.Words.{real_of}
use Rattle.dictionary.specs.Names.{slot_of}
use Rattle.dictionary.proofs.naming.NameLaws.{counted}
use Rattle.unit.specs.Entry.{entry, whole, real}
use Rattle.unit.specs.Held.{at_row}
use Rattle.unit.proofs.Slots.{has, array_sub, constant, fixed_constant}
use Rattle.unit.specs.Extent.{extent}
use Rattle.unit.specs.Sources.{sourced}
use Rattle.unit.proofs.sources.SourceLaws.{names_nothing, received, constants, in_row}
use Rattle.controller.specs.Tick.{ticked}
use Rattle.controller.specs.TickLaws.{Unpublished, before, after}
use Rattle.controller.specs.Turns.{at_turn, row_of, seen, SourcedBy}
use Rattle.controller.proofs.Kept.{fixed_last}
use Rattle.controller.proofs.TickLaws.{words_kept, tame}
use Rattle.controller.proofs.Turns.{seen_by}

pub ec_unpublished : (n : ℕ) → 0 < n → n ≤ 12 → Unpublished (slot_of 0x2500 n)
unfolding has
ec_unpublished n low high = before {slot = slot_of 0x2500 n} (omega (arith, array_sub 0x2500 refl n low high, counted))

pub constant_unpublished : (n : ℕ) → 0 < n → n ≤ 15 → Unpublished (slot_of 0x5010 n)
unfolding has
constant_unpublished n low high = by (ltb n 3) refl where
  by : (b : Bool) → ltb n 3 ≡ b → Unpublished (slot_of 0x5010 n)
  by true e = let h = ltb-true n 3 e in
      after {slot = slot_of 0x5010 n} (omega (arith, fixed_constant refl n low h, fixed_last, counted)) (omega (arith, fixed_constant refl n low h, fixed_last, counted))
  by false e = let h = ltb-false n 3 e in before {slot = slot_of 0x5010 n} (omega (arith, constant refl n h high, counted))

module _ (u v : List ℕ) (alike : (slot : ℕ) → Unpublished slot → get_or u slot 0 ≡ get_or v slot 0) (source number : ℕ) where
  pub sourced_same : (number ≤ extent source % 16 → row_of source number < 16 → at_row u (row_of source number) ≡ at_row v (row_of source number)) → sourced u source number ≡ sourced v source number
  unfolding row_of extent first whole real entry
  sourced_same rows = by (ltb 0 number) refl (ltb (extent source % 16) number) refl (eqb source 1) refl (eqb source 6) refl
    where
      by : (a : Bool) → ltb 0 number ≡ a → (b : Bool) → ltb (extent source % 16) number ≡ b → (c : Bool) → eqb source 1 ≡ c → (d : Bool) → eqb source 6 ≡ d
          → sourced u source number ≡ sourced v source number
      by false e b f c g d h =
          let zero : number ≡ 0 = let k = ltb-false 0 number e in omega arith in
          names_nothing u source number (inl zero) ∙ sym (names_nothing v source number (inl zero))
      by true e true f c g d h =
          let beyond = ltb-true (extent source % 16) number f in
          names_nothing u source number (inr beyond) ∙ sym (names_nothing v source number (inr beyond))
      by true e false f true g d h =
          let low = ltb-true 0 number e in
          let high = ltb-false (extent source % 16) number f in
          let is = eqb-true source 1 g in
          received u source number low high is
          ∙ ap (λ (w : ℕ). Whole (signed16 w)) (alike (slot_of 0x2500 number) (ec_unpublished number low (rw is at high)))
          ∙ sym (received v source number low high is)
      by true e false f false g true h =
          let low = ltb-true 0 number e in
          let high = ltb-false (extent source % 16) number f in
          let is = eqb-true source 6 h in
          constants u source number low high is
          ∙ ap (λ (w : ℕ). Real (real_of w)) (alike (slot_of 0x5010 number) (constant_unpublished number low (rw is at high)))
          ∙ sym (constants v source number low high is)
      by true e false f false g false h =
          let low = ltb-true 0 number e in
          let high = ltb-false (extent source % 16) number f in
          let there = in_row u source number low high (eqb-false source 1 g) (eqb-false source 6 h) in
          there.1 ∙ rows high there.0 ∙ sym (in_row v source number low high (eqb-false source 1 g) (eqb-false source 6 h)).1

module _ (samples : List ℤ) (unit : List ℕ) (r : ℕ) (h : r ≤ 20) where
  pub alike_after : (slot : ℕ) → Unpublished slot → get_or (at_turn samples unit r) slot 0 ≡ get_or (ticked samples unit) slot 0
  alike_after slot p = (tame samples unit r h slot p).word ∙ sym (words_kept samples unit slot p)

  -- an output sees every signal as it stands after the tick
  pub outputs_see : 16 ≤ r → (source number : ℕ) → sourced (at_turn samples unit r) source number ≡ sourced (ticked samples unit) source number
  outputs_see late source number =
      sourced_same (at_turn samples unit r) (ticked samples unit) alike_after source number (λ m l. (seen_by samples unit r (row_of source number) h l).0 (omega arith))

  -- and a logic block every table's
  pub logics_see : 14 ≤ r → (number : ℕ) → sourced (at_turn samples unit r) 3 number ≡ sourced (ticked samples unit) 3 number
  unfolding row_of extent first
  logics_see late number =
      sourced_same (at_turn samples unit r) (ticked samples unit) alike_after 3 number (λ m l. (seen_by samples unit r (row_of 3 number) h l).0 (omega arith))

pub sourced_by : SourcedBy
unfolding seen
sourced_by samples unit r source number h =
    let row = row_of source number in
    chosen (λ (s : Signal). sourced (at_turn samples unit r) source number ≡ s) (ltb row r) _ _
    (λ e. sourced_same (at_turn samples unit r) (ticked samples unit) (alike_after samples unit r h) source number
    (λ m l. (seen_by samples unit r row h l).0 (ltb-true row r e)))
    (λ e. sourced_same (at_turn samples unit r) unit (λ slot p. (tame samples unit r h slot p).word) source number
    (λ m l. (seen_by samples unit r row h l).1 (ltb-false row r e)))
