-- One record, part by part and test by test.
-- Assumes nothing.
use mathlib.Core.Path.{◌≡◌, refl, sym, ap, ◌∙◌}
use mathlib.Core.Bool.{Bool, true, false, not, ◌||◌}
use mathlib.Core.List.{List, [], ◌∷◌}
use Prim.Native.Nat.{ℕ, ◌+◌, ◌%◌, ◌<◌, ◌≤◌, zero-le}
use native.Mathlib.Omega.{arith}
use lib.Dec.{eqb, ltb}
use lib.ListN.{length, get_or, take, drop}
use borrow.Author.Tests.{lt-ltb, le-ltb, eq-eqb, ne_eqb}
use Rattle.octets.specs.Little.{little}
use Rattle.octets.proofs.little.Parts.{placed, part}
use Rattle.numbers.specs.Choice.{first}
use Rattle.dictionary.specs.Rows.{width, u8}
use Rattle.dictionary.specs.declared.types.Range.{Range}
use Rattle.dictionary.proofs.Tabulate.{tabulate}
use Rattle.dictionary.specs.declared.types.Kind.{Kind}
use Rattle.dictionary.specs.declared.types.Kind.TheVariants.{Unsigned8, Integer16, Unsigned16, Real32, Unsigned32}
use Rattle.numbers.specs.Order.{below}
use Rattle.entries.specs.Judge.{number_of, finite, within, in_range}
use Rattle.std.specs.Prelude.{Option, Some, None, Ok, Err, is_ok}
use Rattle.entries.specs.declared.types.Fault.TheVariants.{Above, Below}
use Rattle.entries.proofs.KeyLaws.{whole_good}
use Rattle.roles.specs.Roles.{ranged}
use Rattle.roles.specs.declared.types.Role.{Role}
use Rattle.roles.specs.declared.types.Role.TheVariants.{Whole}
use Rattle.roles.proofs.Cases.{nth, at_place}
use Rattle.records.specs.declared.rows.Row.{Row}
use Rattle.records.specs.Layout.{Listed, size}
use Rattle.records.specs.Rows.{role_at, entry_at, greatest}
use Rattle.records.specs.Walk.{index_in, sub_in, size_in, data_in, data_there, fits, valued, sized, decoded}
use Rattle.records.specs.declared.types.Refusal.TheVariants.{EndedEarly, NotNext, WrongSize, OutOfRange}

-- ---- the parts

module _ (rest : List ℕ) where
  pub data_cut : (n : ℕ) → length rest < 7 + n → 0 ≡ data_there n rest
  unfolding data_there first
  data_cut n h = rw (lt-ltb (length rest) (7 + n) h)

  module _ (n : ℕ) (h : 7 + n ≤ length rest) where
    pub data_1 : n ≡ 1 → little (get_or rest 7 0 ∷ 0 ∷ []) ≡ data_there n rest
    unfolding data_there data_in little placed first
    data_1 e = rw (le-ltb (length rest) (7 + n) h, e, part rest 1 7 (omega arith)) (omega arith)

    pub data_2 : n ≡ 2 → little (take 2 (drop 7 rest)) ≡ data_there n rest
    unfolding data_there data_in first
    data_2 e = rw (le-ltb (length rest) (7 + n) h, e)

    pub data_4 : n ≡ 4 → little (take 4 (drop 7 rest)) ≡ data_there n rest
    unfolding data_there data_in first
    data_4 e = rw (le-ltb (length rest) (7 + n) h, e)

    pub data_else : (n ≡ 1 → ⊥) → (n ≡ 2 → ⊥) → (n ≡ 4 → ⊥) → 0 ≡ data_there n rest
    unfolding data_there first
    data_else a b c = rw (le-ltb (length rest) (7 + n) h, ne_eqb n 1 a, ne_eqb n 2 b, ne_eqb n 4 c)

-- a type has one, two or four bytes
pub is_there : (kind : Kind) (rest : List ℕ) {n : ℕ} → n ≡ width kind → 7 + n ≤ length rest → data_there n rest ≡ data_in n rest
unfolding data_there first width
is_there kind rest {n} e h = rw (le-ltb (length rest) (7 + n) h, e) (go kind)
  where
    go : (kind : Kind) → first (eqb (width kind) 1 || (eqb (width kind) 2 || eqb (width kind) 4)) (data_in (width kind) rest) 0 ≡ data_in (width kind) rest
    go Unsigned8 = refl
    go Integer16 = refl
    go Unsigned16 = refl
    go Real32 = refl
    go Unsigned32 = refl

-- ---- the entry of a row's sub, by its role

module _ (row : Row) (sub : ℕ) {role : Role} (q : role ≡ role_at row sub) where
  pub same_size : {n : ℕ} → n ≡ width (ranged role).kind → n ≡ size (entry_at row sub)
  unfolding size entry_at
  same_size w = w ∙ ap (λ (r : Role). width (ranged r).kind) q

  pub same_fits : (word : ℕ) → is_ok (in_range (ranged role) word) ≡ fits (entry_at row sub) word
  unfolding fits entry_at
  same_fits word = ap (λ (r : Role). is_ok (in_range (ranged r) word)) q

-- the range of a byte that begins at 0 goes up to the greatest value
range_by : Option ℕ → Range → Range
range_by None range = range
range_by (Some most) range = (u8 0 most 0).range

small_ranges : (role : Role) → ranged role ≡ range_by (greatest role) (ranged role)
unfolding tabulate nth first ranged greatest range_by
small_ranges = at_place ranged (λ r. range_by (greatest r) (ranged r)) refl

module _ (role : Role) {most : ℕ} (small : Some most ≡ greatest role) where
  small_range : ranged role ≡ (u8 0 most 0).range
  unfolding range_by
  small_range = small_ranges role ∙ ap (λ o. range_by o (ranged role)) (sym small)

  pub small_size : 1 ≡ width (ranged role).kind
  unfolding width
  small_size = ap (λ (r : Range). width r.kind) (sym small_range)

  small_fits : (word : ℕ) → is_ok (in_range (ranged role) word) ≡ not (ltb most (word % 0x100))
  unfolding in_range finite within number_of below first
  small_fits word = rw small_range (go (ltb most (word % 0x100)))
    where
      go : (b : Bool) → is_ok (first b (Err Above) (first (ltb (word % 0x100) 0) (Err Below) (Ok (tt {0})))) ≡ not b
      go true = refl
      go false = rw (le-ltb (word % 0x100) 0 zero-le)

  pub small_unfit : (word : ℕ) → most < word % 0x100 → false ≡ is_ok (in_range (ranged role) word)
  small_unfit word h = sym (small_fits word ∙ rw (lt-ltb most (word % 0x100) h))

  pub small_fit : (word : ℕ) → word % 0x100 ≤ most → true ≡ is_ok (in_range (ranged role) word)
  small_fit word h = sym (small_fits word ∙ rw (le-ltb most (word % 0x100) h))

-- every word fits in the whole range, and has two bytes
pub whole_fits : {role : Role} (word : ℕ) → role ≡ Whole → true ≡ is_ok (in_range (ranged role) word)
unfolding ranged
whole_fits word e = rw e (ap is_ok (whole_good word))

pub whole_size : {role : Role} → role ≡ Whole → 2 ≡ width (ranged role).kind
unfolding ranged width
whole_size e = rw e

-- ---- the tests in their order

module _ (e : Listed) (rest : List ℕ) where
  pub no_head : length rest < 7 → Err EndedEarly ≡ decoded e rest
  unfolding decoded first
  no_head h = rw (lt-ltb (length rest) 7 h)

  pub other_index : 7 ≤ length rest → (index_in rest ≡ e.index → ⊥) → Err NotNext ≡ decoded e rest
  unfolding decoded first
  other_index h n = rw (le-ltb (length rest) 7 h, ne_eqb (index_in rest) e.index n)

  module _ (h : 7 ≤ length rest) (i : index_in rest ≡ e.index) where
    pub other_sub : (sub_in rest ≡ e.sub → ⊥) → Err NotNext ≡ decoded e rest
    unfolding decoded first
    other_sub n = rw (le-ltb (length rest) 7 h, eq-eqb (index_in rest) e.index i, ne_eqb (sub_in rest) e.sub n)

    pub name_right : sub_in rest ≡ e.sub → sized e rest ≡ decoded e rest
    unfolding decoded first
    name_right s = rw (le-ltb (length rest) 7 h, eq-eqb (index_in rest) e.index i, eq-eqb (sub_in rest) e.sub s)

  pub other_size : {n : ℕ} → n ≡ size e → (size_in rest ≡ n → ⊥) → Err WrongSize ≡ sized e rest
  unfolding sized first
  other_size q n = rw (ne_eqb (size_in rest) (size e) (λ r. n (r ∙ sym q)))

  size_right : {n : ℕ} → n ≡ size e → size_in rest ≡ n → valued e rest ≡ sized e rest
  unfolding sized first
  size_right q n = rw (eq-eqb (size_in rest) (size e) (n ∙ q))

  module _ {n : ℕ} (q : n ≡ size e) (s : size_in rest ≡ n) where
    pub no_data : length rest < 7 + n → Err EndedEarly ≡ sized e rest
    unfolding valued first
    no_data h = rw (lt-ltb (length rest) (7 + size e) (omega arith)) at (size_right q s)

    module _ {word : ℕ} (h : 7 + n ≤ length rest) (d : word ≡ data_in n rest) where
      pub unfit : {b : Bool} → b ≡ fits e word → b ≡ false → Err OutOfRange ≡ sized e rest
      unfolding valued first
      unfit f t = rw (le-ltb (length rest) (7 + size e) (omega arith), ← q, ← d, ← f, t) at (size_right q s)

      pub fit : {b : Bool} → b ≡ fits e word → b ≡ true → Ok (7 + n) ≡ sized e rest
      unfolding valued first
      fit f t = rw (le-ltb (length rest) (7 + size e) (omega arith), ← q, ← d, ← f, t) at (size_right q s)
