-- What a call that read a slot gave, as the word of its name: `refl` says that the table has the slot there, under `unfolding has`.
-- Assumes nothing.
use Prim.Native.Nat.{ℕ, ◌+◌, ◌%◌, ◌<◌, ◌^◌}
use mathlib.Core.Bool.{Bool, not}
use mathlib.Core.List.{List}
use mathlib.Core.Path.{◌≡◌, ap, ◌∙◌}
use lib.Dec.{eqb}
use lib.IntN.{ℤ}
use lib.ListN.{get_or}
use lib.Signed.{mag}
use mir.Syntax.{w16}
use mir.Val.{to_z, of_z}
use Rattle.numbers.proofs.ExactLaws.{back}
use Rattle.numbers.specs.Signed.{signed16}
use Rattle.signals.specs.declared.signal.Signal.{Signal}
use Rattle.unit.proofs.Slots.{stretch, has, array}
use Rattle.unit.specs.Entry.{whole, byte, time, switched}
use Rattle.unit.specs.Sources.{sourced}
use Rattle.unit.specs.declared.pairs.Pair.{Pair}

module _ (index : ℕ) (unit : List ℕ) (k : ℕ) {slot last : ℕ} (h : k < last) where
  pub byte_is : {word : ℕ} → word ≡ get_or unit (slot + k) 0 % 0x100 → stretch index 1 last slot ≡ has index → word ≡ byte unit index (k + 1)
  unfolding byte
  byte_is told e = rw (array index e k h) told

  pub time_is : {word : ℕ} → word ≡ get_or unit (slot + k) 0 % 0x10000 → stretch index 1 last slot ≡ has index → word ≡ time unit index (k + 1)
  unfolding time
  time_is told e = rw (array index e k h) told

  pub switched_is : {on : Bool} → on ≡ not (eqb (get_or unit (slot + k) 0 % 0x100) 0) → stretch index 1 last slot ≡ has index → on ≡ switched unit index (k + 1)
  unfolding switched
  switched_is told e = rw (array index e k h) told

  pub whole_is : {v : ℤ} → mag v < 2 ^ 15 → v ≡ signed16 (get_or unit (slot + k) 0) → stretch index 1 last slot ≡ has index → to_z w16 (of_z w16 v) ≡ whole unit index (k + 1)
  unfolding whole
  whole_is {v} fits told e = back {x = v} fits (rw (array index e k h) told)

-- the signal that the pair in two entries names
pub looked_up : (source number : ℕ) (unit : List ℕ) (k : ℕ) {first second last : ℕ} → k < last → {p : Pair} {s : Signal} →
    p ≡ record { source = get_or unit (first + k) 0 % 0x100; number = get_or unit (second + k) 0 % 0x100 } → s ≡ sourced unit p.source p.number →
    stretch source 1 last first ≡ has source → stretch number 1 last second ≡ has number → s ≡ sourced unit (byte unit source (k + 1)) (byte unit number (k + 1))
unfolding byte
looked_up source number unit k h pair told e f = rw (array source e k h, array number f k h) (told ∙ ap (λ (q : Pair). sourced unit q.source q.number) pair)
