-- The slots of the names that a tick uses. An array's slots follow its first one, a family's blocks follow each other at one distance;
-- where the first stands is computed from the table, so that no slot is written here or where these laws are cited: `refl` finds it.
-- Blocks and subs are counted from k = 0, as the code does. To cite:
-- under `unfolding has`: `array 0x7120 refl k h`, `array_sub 0x2500 refl n low high`, `var 0x1001 refl`, `constant refl n low high`;
-- under `unfolding have`: `table_var 0x3000 refl k h`, `table_array 0x3005 refl k h`, `table_value 0x3007 refl k h`,
-- `math_array 0x4020 refl k h i g`, `math_sub 0x4050 refl k h i low high`, `logic_array 0x4001 refl k h t g`;
-- under `unfolding have_conditions`: `condition refl k h t g c f`.
-- Assumes nothing.
use Prim.Native.Nat.{ℕ, zero, suc, ◌+◌, ◌-◌, ◌*◌, ◌<◌, ◌≤◌}
use mathlib.Core.List.{List, [], ◌∷◌}
use mathlib.Core.Path.{◌≡◌, refl, sym, ap, ◌∙◌}
use native.Mathlib.Nat.{zero-add, mul-suc, le_of_suc-le-suc, not-suc-le-zero}
use native.Mathlib.Omega.{arith}
use lib.Dec.{lit<}
use lib.ListN.{get_or}
use borrow.Author.Tests.{ne_eqb, le-leb, lt-leb}
use Rattle.numbers.specs.Choice.{first}
use Rattle.dictionary.specs.Names.{Stretch, stretches, with_index, named, at_sub, largest, slot_of, slot_found}
use Rattle.dictionary.specs.Objects.{meant}
use Rattle.dictionary.specs.declared.objects.Object.TheVariants.{Var, Array}
use Rattle.dictionary.proofs.Tabulate.{tabulate, tabulated}
use Rattle.dictionary.proofs.naming.NameLaws.{by_object, array_value, var_value}

-- ---- one index

-- what the table has under it
unfoldable pub has : ℕ → List Stretch
unfolding with_index stretches first
has index = with_index index stretches

abbrev pub stretch : ℕ → ℕ → ℕ → ℕ → List Stretch
stretch index from to slot = record { index = index; from = from; to = to; slot = slot } ∷ []

module _ (index : ℕ) {slot last : ℕ} (e : stretch index 1 last slot ≡ has index) where
  pub array_sub : (n : ℕ) → 0 < n → n ≤ last → slot_of index n ≡ slot + n - 1
  unfolding slot_of has meant
  array_sub n low high =
      sym (ap slot_found (array_value slot last n (λ z. omega arith) high ∙ by_object (Array slot last) (Array slot last) index n refl (record { are = e }))) ∙ omega arith

  pub array : (k : ℕ) → k < last → slot_of index (k + 1) ≡ slot + k
  array k h = array_sub (k + 1) (omega arith) (omega arith) ∙ omega arith

  array_first : 0 < last → slot_of index 1 ≡ slot
  array_first h = array_sub 1 (lit< tt) h ∙ omega arith

pub var : (index : ℕ) {slot : ℕ} → stretch index 0 0 slot ≡ has index → slot_of index 0 ≡ slot
unfolding slot_of has meant
var index {slot} e = sym (ap slot_found (var_value slot 0 refl ∙ by_object (Var slot) (Var slot) index 0 refl (record { are = e })))

-- ---- the constants, which stand in two stretches

abbrev pub two_stretches : ℕ → ℕ → List Stretch
two_stretches configured fixed = record { index = 0x5010; from = 3; to = 15; slot = configured } ∷ stretch 0x5010 1 2 fixed

module _ {configured fixed : ℕ} (e : two_stretches configured fixed ≡ has 0x5010) (n : ℕ) where
  by_stretches : slot_of 0x5010 n ≡ slot_found (named (two_stretches configured fixed) n)
  unfolding slot_of has
  by_stretches = ap (λ (ss : List Stretch). slot_found (named ss n)) (sym e)

  pub fixed_constant : 0 < n → n < 3 → slot_of 0x5010 n ≡ fixed + n - 1
  unfolding named at_sub largest first
  fixed_constant low high = by_stretches ∙ simp (ne_eqb n 0 (λ q. omega arith), lt-leb 3 n high, le-leb 1 n low, le-leb n 2 (omega arith)) (omega arith)

  pub constant : 3 ≤ n → n ≤ 15 → slot_of 0x5010 n ≡ configured + n - 3
  unfolding named at_sub largest first
  constant low high = by_stretches ∙ simp (ne_eqb n 0 (λ q. omega arith), le-leb 3 n low, le-leb n 15 high) (omega arith)

-- the number of errors kept stands behind the EC values, the errors behind all else
pub error_slots : (slot_of 0x1003 0 ≡ 623) × (slot_of 0x1003 1 ≡ 653)
unfolding slot_of
error_slots = (refl, refl)

-- ---- the families

-- f at block k and its slot, for n blocks from block k on, the first at a slot and each so many behind the one before
abbrev pub spaced : {A : Type 0} → ℕ → ℕ → ℕ → ℕ → (ℕ → ℕ → A) → List A
spaced zero step k slot f = []
spaced (suc n) step k slot f = f k slot ∷ spaced n step (suc k) (slot + step) f

module _ {A : Type 0} (d : A) where
  spaced_at : (n step k slot : ℕ) (f : ℕ → ℕ → A) (j : ℕ) → j < n → get_or (spaced n step k slot f) j d ≡ f (k + j) (slot + step * j)
  spaced_at zero step k slot f j h = absurd (not-suc-le-zero h)
  spaced_at (suc n) step k slot f zero h =
      let a : k ≡ k + 0 = omega arith in
      let b : slot ≡ slot + step * 0 = omega arith in
      rw (← a, ← b)
  spaced_at (suc n) step k slot f (suc j) h =
      let a : suc k + j ≡ k + suc j = omega arith in
      let b : slot + step + step * j ≡ slot + step * suc j = omega (arith, mul-suc step j) in
      spaced_at n step (suc k) (slot + step) f j (le_of_suc-le-suc h) ∙ rw (a, b)

  -- blocks that stand so in the table, each by its number
  follows : (n step slot : ℕ) (f : ℕ → ℕ → A) (g : ℕ → A) → spaced n step 0 slot f ≡ tabulate n 0 g → (k : ℕ) → k < n → f k (slot + step * k) ≡ g k
  follows n step slot f g e k h =
      ap (λ (i : ℕ). f i (slot + step * k)) (sym (zero-add k)) ∙ sym (spaced_at n step 0 slot f k h)
      ∙ ap (λ (l : List A). get_or l k d) e ∙ tabulated n 0 g d k h ∙ ap g (zero-add k)

-- what the table has under n indexes
unfoldable pub have : ℕ → (ℕ → ℕ) → List (List Stretch)
unfolding has tabulate
have n index = tabulate n 0 (λ k. has (index k))

-- n blocks with so many entries each, their subs in one stretch
abbrev pub Family : ℕ → (ℕ → ℕ) → ℕ → ℕ → ℕ → ℕ → Type 0
Family n index from to entries slot = spaced n entries 0 slot (λ k. stretch (index k) from to) ≡ have n index

member : (n : ℕ) (index : ℕ → ℕ) (from to entries slot : ℕ) → Family n index from to entries slot → (k : ℕ) → k < n → stretch (index k) from to (slot + entries * k) ≡ has (index k)
unfolding have
member n index from to entries slot e = follows [] n entries slot (λ k. stretch (index k) from to) (λ k. has (index k)) e

-- tables: of-table 0x3000 k is 30z0h with z = k + 1
abbrev pub of_table : ℕ → ℕ → ℕ
of_table index k = index + 0x10 * (k + 1)

abbrev table_entries : ℕ
table_entries = 4 + 3 * 11

module _ (index : ℕ) {slot : ℕ} where
  pub table_var : Family 6 (of_table index) 0 0 table_entries slot → (k : ℕ) → k < 6 → slot_of (of_table index k) 0 ≡ slot + table_entries * k
  table_var e k h = var (of_table index k) (member 6 (of_table index) 0 0 table_entries slot e k h)

  -- 30z7h stand one after the other
  pub table_value : Family 6 (of_table index) 0 0 1 slot → (k : ℕ) → k < 6 → slot_of (of_table index k) 0 ≡ slot + k
  table_value e k h = var (of_table index k) (member 6 (of_table index) 0 0 1 slot e k h) ∙ omega arith

  pub table_array : Family 6 (of_table index) 1 11 table_entries slot → (k : ℕ) → k < 6 → slot_of (of_table index k) 1 ≡ slot + table_entries * k
  table_array e k h = array_first (of_table index k) (member 6 (of_table index) 1 11 table_entries slot e k h) (lit< tt)

-- math: of-math 0x4000 k is 4y00h of block k + 1
abbrev pub of_math : ℕ → ℕ → ℕ
of_math index k = index + 0x100 * (5 + (k + 1))

abbrev math_entries : ℕ
math_entries = 6 * 4 + 3

module _ (index : ℕ) {slot last : ℕ} (e : Family 4 (of_math index) 1 last math_entries slot) (k : ℕ) (h : k < 4) where
  pub math_array : (i : ℕ) → i < last → slot_of (of_math index k) (i + 1) ≡ slot + (math_entries * k + i)
  math_array i g = array (of_math index k) (member 4 (of_math index) 1 last math_entries slot e k h) i g ∙ omega arith

  -- the same with the subs from 1
  pub math_sub : (i : ℕ) → 0 < i → i ≤ last → slot_of (of_math index k) i ≡ slot + math_entries * k + i - 1
  math_sub i low high = array_sub (of_math index k) (member 4 (of_math index) 1 last math_entries slot e k h) i low high ∙ omega arith

-- logic: of-logic 0x4001 k is 4x01h with x = k + 1
abbrev pub of_logic : ℕ → ℕ → ℕ
of_logic index k = index + 0x100 * (k + 1)

abbrev logic_entries : ℕ
logic_entries = 3 + 3 + 9 * 5

pub logic_array : (index : ℕ) {slot last : ℕ} → Family 2 (of_logic index) 1 last logic_entries slot → (k : ℕ) → k < 2 → (t : ℕ) → t < last → slot_of (of_logic index k) (t + 1) ≡ slot + logic_entries * k + t
logic_array index {slot} {last} e k h = array (of_logic index k) (member 2 (of_logic index) 1 last logic_entries slot e k h)

-- condition c + 1 of A, B or C, which are t = 0, 1, 2
abbrev pub of_condition : ℕ → ℕ → ℕ → ℕ
of_condition k t c = 0x4000 + 0x100 * (k + 1) + 0x10 * (t + 1) + (c + 1)

abbrev pub of_branch : ℕ → ℕ → ℕ → List (List Stretch)
of_branch k t slot = spaced 3 5 0 slot (λ c. stretch (of_condition k t c) 1 5)

abbrev pub of_block : ℕ → ℕ → List (List (List Stretch))
of_block k slot = spaced 3 15 0 slot (of_branch k)

unfoldable pub have_conditions : List (List (List (List Stretch)))
unfolding have tabulate
have_conditions = tabulate 2 0 (λ k. tabulate 3 0 (λ t. have 3 (of_condition k t)))

pub condition : {slot : ℕ} → spaced 2 logic_entries 0 slot of_block ≡ have_conditions → (k : ℕ) → k < 2 → (t : ℕ) → t < 3 → (c : ℕ) → c < 3 →
    slot_of (of_condition k t c) 1 ≡ slot + logic_entries * k + 15 * t + 5 * c
unfolding have_conditions
condition {slot} e k hk t ht c hc =
    array_first (of_condition k t c)
    (member 3 (of_condition k t) 1 5 5 (slot + logic_entries * k + 15 * t)
    (follows [] 3 15 (slot + logic_entries * k) (of_branch k) (λ t. have 3 (of_condition k t))
    (follows [] 2 logic_entries slot of_block (λ k. tabulate 3 0 (λ t. have 3 (of_condition k t))) e k hk) t ht) c hc)
    (lit< tt)
