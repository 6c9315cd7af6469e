-- What the code reads, by the names of the digits: `refl` says that the table has the slot there.
-- Assumes nothing.
use Prim.Native.Nat.{ℕ, ◌+◌, ◌-◌, ◌*◌, ◌%◌, ◌<◌, ◌≤◌}
use mathlib.Core.List.{List}
use mathlib.Core.Path.{◌≡◌}
use native.Mathlib.Omega.{arith}
use lib.ListN.{get_or}
use Rattle.unit.specs.Entry.{byte}
use Rattle.unit.proofs.Slots.{stretch, has, Family, of_table, array_sub, table_var}
use Rattle.logic.specs.Digits.{within}
use Rattle.logic.proofs.digits.DigitLaws.{within_same}

-- under `unfolding has`: of an array's count subs
pub in_array : (index count : ℕ) {slot : ℕ} → stretch index 1 count slot ≡ has index → (unit : List ℕ) (number : ℕ) →
    within count number (get_or unit (slot + (number - 1)) 0 % 0x100) ≡ within count number (byte unit index number)
unfolding byte
in_array index count {slot} e unit number =
    within_same count number (λ low high.
    let k : slot + number - 1 ≡ slot + (number - 1) = omega arith in
    rw (array_sub index e number low high, k))

-- under `unfolding have`: of the six tables
pub in_tables : {slot : ℕ} → Family 6 (of_table 0x3003) 0 0 37 slot → (unit : List ℕ) (z : ℕ) → 0 < z → z ≤ 6 →
    get_or unit (slot + 37 * (z - 1)) 0 % 0x100 ≡ byte unit (0x3003 + 0x10 * z) 0
unfolding byte
in_tables {slot} e unit z low high =
    let k : z - 1 + 1 ≡ z = omega arith in
    rw (rw k at (table_var 0x3003 e (z - 1) (omega arith)))
