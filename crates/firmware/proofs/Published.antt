-- The commands and the register from their slots, and what a read of their names answers, computed for each name.
-- Assumes nothing.
use Prim.Native.Nat.{ℕ, zero, suc, ◌+◌, ◌-◌, ◌%◌, ◌<◌}
use mathlib.Core.Bool.{Bool, true, false}
use mathlib.Core.List.{List, [], ◌∷◌}
use mathlib.Core.Path.{◌≡◌, refl, ap, ◌∙◌}
use native.Mathlib.Omega.{arith}
use lib.Dec.{ltb, lit<}
use lib.IntN.{ℤ, pos, neg_ℤ}
use lib.ListN.{get_or}
use Rattle.numbers.specs.Choice.{first}
use Rattle.numbers.specs.Signed.{twos, signed16, pattern16}
use Rattle.octets.specs.Little.{little, bytes}
use Rattle.dictionary.specs.Names.{find, slot_of, hidden, sought}
use Rattle.dictionary.specs.Rows.{width}
use Rattle.roles.specs.Values.{range_of}
use Rattle.sdo.specs.Answers.{size_of, reading, obeyed, silent, answer}
use Rattle.sdo.specs.Frames.{index_in, sub_in, name_in, command_of, read_command, cut, reply, reply_to}
use Rattle.unit.specs.Entry.{entry, whole, byte}
use Rattle.unit.proofs.Slots.{has, stretch, array, var}
use Rattle.firmware.specs.Published.{commands, register, request, answered, AsRead}

-- ---- from their slots

module _ (unit : List ℕ) {slot : ℕ} (at : stretch 0x7330 1 4 slot ≡ has 0x7330) where
  pub four_commands : {a b c d : ℤ} →
      a ≡ signed16 (get_or unit slot 0) → b ≡ signed16 (get_or unit (slot + 1) 0) → c ≡ signed16 (get_or unit (slot + 2) 0) → d ≡ signed16 (get_or unit (slot + 3) 0) →
      a ∷ b ∷ c ∷ d ∷ [] ≡ commands unit
  unfolding commands whole entry
  four_commands ea eb ec ed =
      let one : slot_of 0x7330 1 ≡ slot = array 0x7330 at 0 (lit< tt) ∙ omega arith in
      rw (one, array 0x7330 at 1 (lit< tt), array 0x7330 at 2 (lit< tt), array 0x7330 at 3 (lit< tt), ea, eb, ec, ed)

pub the_register : (unit : List ℕ) {slot : ℕ} → stretch 0x1001 0 0 slot ≡ has 0x1001 → get_or unit slot 0 % 0x100 ≡ register unit
unfolding register byte entry
the_register unit at = rw (var 0x1001 at)

-- ---- as read

-- a word's INTEGER16 has the word's own low 16 bits
own_pattern : (word : ℕ) → word % 0x10000 ≡ pattern16 (signed16 word)
unfolding signed16 twos first pattern16
own_pattern word = go (word % 0x10000) (omega arith) (ltb (word % 0x10000) 0x8000) refl
  where
    below : (n p : ℕ) → n + p ≡ 0x10000 → 0 < n → p ≡ pattern16 (neg_ℤ (pos n))
    below zero p e h = absurd (omega arith)
    below (suc n) p e h = omega arith

    go : (p : ℕ) → p < 0x10000 → (small : Bool) → ltb p 0x8000 ≡ small → p ≡ pattern16 (first small (pos p) (neg_ℤ (pos (0x10000 - p))))
    go p h true e = refl
    go p h false e = below (0x10000 - p) p (omega arith) (omega arith)

pub as_read : AsRead
unfolding request answered commands register entry whole byte find slot_of hidden sought width range_of size_of reading obeyed silent answer little bytes index_in sub_in name_in command_of read_command cut reply reply_to first
as_read unit = (each, refl)
  where
    same : (sub word : ℕ) → 0x4B ∷ 0x30 ∷ 0x73 ∷ sub ∷ bytes 4 (word % 0x10000) ≡ 0x4B ∷ 0x30 ∷ 0x73 ∷ sub ∷ bytes 4 (pattern16 (signed16 word))
    same sub word = ap (λ (n : ℕ). 0x4B ∷ 0x30 ∷ 0x73 ∷ sub ∷ bytes 4 n) (own_pattern word)

    each : (k : ℕ) → k < 4 → answered unit 0x7330 (k + 1) ≡ 0x4B ∷ 0x30 ∷ 0x73 ∷ (k + 1) ∷ bytes 4 (pattern16 (get_or (commands unit) k (pos 0)))
    each zero h = same 1 (get_or unit (slot_of 0x7330 1) 0)
    each (suc zero) h = same 2 (get_or unit (slot_of 0x7330 2) 0)
    each (suc (suc zero)) h = same 3 (get_or unit (slot_of 0x7330 3) 0)
    each (suc (suc (suc zero))) h = same 4 (get_or unit (slot_of 0x7330 4) 0)
    each (suc (suc (suc (suc k)))) h = absurd (omega arith)
