-- A condition's argument by the pair that was read: its signal, and its digits.
-- Assumes nothing.
use Prim.Native.Nat.{ℕ, ◌+◌, ◌%◌}
use mathlib.Core.List.{List}
use mathlib.Core.Path.{◌≡◌, ap, ◌∙◌}
use lib.ListN.{get_or}
use Rattle.signals.specs.declared.signal.Signal.{Signal}
use Rattle.unit.specs.Sources.{sourced}
use Rattle.unit.specs.declared.pairs.Pair.{Pair}
use Rattle.logic.specs.Digits.{digits_of}
use Rattle.logic.specs.Logics.{argument_at, digits_at}

module _ (unit : List ℕ) (slot : ℕ) {p : Pair} (e : p ≡ record { source = get_or unit slot 0 % 0x100; number = get_or unit (slot + 1) 0 % 0x100 }) where
  pub argued : {s : Signal} → s ≡ sourced unit p.source p.number → s ≡ argument_at unit slot
  unfolding argument_at
  argued f = f ∙ ap (λ (q : Pair). sourced unit q.source q.number) e

  pub with_digits : {d : ℕ} → d ≡ digits_of unit p.source p.number → d ≡ digits_at unit slot
  unfolding digits_at
  with_digits f = f ∙ ap (λ (q : Pair). digits_of unit q.source q.number) e
