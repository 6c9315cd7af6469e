-- The promises of document 02 (vii): both products are as thousandths are, and a logic block's signal and 4010h change together.
-- Assumes nothing.
use Prim.Native.Nat.{ℕ, zero, suc, ◌+◌, ◌-◌, ◌*◌, ◌<◌, ◌≤◌}
use mathlib.Core.Bool.{Bool, true, false}
use mathlib.Core.List.{List, [], ◌∷◌}
use mathlib.Core.Path.{◌≡◌, refl, sym, ap, ◌∙◌}
use native.Mathlib.Omega.{arith}
use borrow.Author.Tests.{ltb-true, ltb-false, lt-ltb, le-ltb}
use lib.Dec.{eqb, ltb}
use lib.ListN.{length, get_or, set}
use lib.IntN.{ℤ, pos, negsuc, neg_ℤ, ◌*ℤ◌, negsuc-*ℤ-pos}
use Rattle.numbers.specs.Choice.{first}
use Rattle.numbers.specs.Order.{below}
use Rattle.signals.specs.Signal.{whole}
use Rattle.signals.specs.declared.signal.Signal.TheVariants.{Whole, Real, Error, Absent}
use Rattle.signals.specs.Words.{of_words}
use Rattle.dictionary.specs.Names.{configured, writable, words, slot_of}
use Rattle.dictionary.specs.Unit.{signals_at, runs_at, flags_at, before_at, unit_size}
use Rattle.dictionary.proofs.Unticked.{signals_behind, signals_before, mark_behind, forgets_only}
use Rattle.dictionary.proofs.naming.NameLaws as Names
use Rattle.roles.specs.Values.{starts, at_start}
use Rattle.sdo.specs.Answers.{answer}
use Rattle.sdo.specs.declared.types.Done.TheVariants.{Value, Written}
use Rattle.sdo.specs.Served.{after}
use Rattle.image.specs.Loaded.{loaded}
use Rattle.image.specs.Reading.{reading}
use Rattle.unit.specs.Entry.{entry}
use Rattle.unit.specs.Held.{tables, logics, blocks, place, at_row, held}
use Rattle.unit.specs.Sources.{among, sourced}
use Rattle.unit.proofs.Slots.{has, array}
use Rattle.controller.proofs.Kept.{set_keeps}
use Rattle.controller.proofs.Shown.{logic_selects}
use Rattle.controller.proofs.TickLaws as Tick
use Rattle.logic.specs.Digits.{tens, orders, in_same_digits}
use Rattle.logic.specs.Logic.{judged}
use Rattle.promises.specs.Running.{Event, frame, tick, load, happens, run}
use Rattle.promises.specs.SameDigits.{thousandths, SameDigits, RealsAsBefore, GivenByItsTable}
use Rattle.promises.proofs.Accepted as Accepted
use Rattle.promises.proofs.Forgetting.{size_stored}
use Rattle.promises.proofs.Running as Running
use Rattle.sdo.specs.Frames.{Answer}
use Rattle.std.specs.Prelude.{Some, None, Ok, Err}

-- ---- one order by two pairs of factors

-- p times m is to q times n as p times m' is to q times n'
record Alike (m n m' n' : ℕ) : Type 0 where
  less : (p q : ℕ) → ltb (p * m) (q * n) ≡ ltb (p * m') (q * n')
  more : (p q : ℕ) → ltb (q * n) (p * m) ≡ ltb (q * n') (p * m')

same_test : {a b c d : ℕ} → (a < b → c < d) → (b ≤ a → d ≤ c) → ltb a b ≡ ltb c d
same_test {a} {b} {c} {d} l m = by (ltb a b) refl where
  by : (t : Bool) → ltb a b ≡ t → t ≡ ltb c d
  by true e = sym (lt-ltb c d (l (ltb-true a b e)))
  by false e = sym (le-ltb c d (m (ltb-false a b e)))

-- what is above zero is below what is not
below_negative : (x y : ℕ) → below (pos x) (neg_ℤ (pos y)) ≡ false
unfolding below
below_negative x zero = le-ltb x 0 (omega arith)
below_negative x (suc y) = refl

negative_below : (x y : ℕ) → 0 < x → below (neg_ℤ (pos x)) (pos y) ≡ true
unfolding below
negative_below zero y h = absurd (omega arith)
negative_below (suc x) y h = refl

both_negative : (x y : ℕ) → below (neg_ℤ (pos x)) (neg_ℤ (pos y)) ≡ ltb y x
unfolding below
both_negative zero zero = refl
both_negative zero (suc y) = sym (le-ltb (suc y) 0 (omega arith))
both_negative (suc x) zero = sym (lt-ltb 0 (suc x) (omega arith))
both_negative (suc x) (suc y) = same_test {a = y} {b = x} {c = suc y} {d = suc x} (λ h. omega arith) (λ h. omega arith)

module _ {m n m' n' : ℕ} (alike : Alike m n m' n') (some : 0 < m) (some' : 0 < m') where
  scaled : (v w : ℤ) → below (v *ℤ pos m) (w *ℤ pos n) ≡ below (v *ℤ pos m') (w *ℤ pos n')
  unfolding below
  scaled (pos a) (pos b) = alike.less a b
  scaled (pos a) (negsuc b) = rw (negsuc-*ℤ-pos b n, negsuc-*ℤ-pos b n') (below_negative (a * m) (suc b * n) ∙ sym (below_negative (a * m') (suc b * n')))
  scaled (negsuc a) (pos b) =
      rw (negsuc-*ℤ-pos a m, negsuc-*ℤ-pos a m') (negative_below (suc a * m) (b * n) (omega arith) ∙ sym (negative_below (suc a * m') (b * n') (omega arith)))
  scaled (negsuc a) (negsuc b) =
      rw (negsuc-*ℤ-pos a m, negsuc-*ℤ-pos b n, negsuc-*ℤ-pos a m', negsuc-*ℤ-pos b n')
      (both_negative (suc a * m) (suc b * n) ∙ alike.more (suc a) (suc b) ∙ sym (both_negative (suc a * m') (suc b * n')))

-- ---- the factors of two numbers with at most three digits

four : (P : ℕ → Type 0) → P 0 → P 1 → P 2 → P 3 → (d : ℕ) → d ≤ 3 → P d
four P none one two three zero h = none
four P none one two three (suc zero) h = one
four P none one two three (suc (suc zero)) h = two
four P none one two three (suc (suc (suc zero))) h = three
four P none one two three (suc (suc (suc (suc d)))) h = absurd (omega arith)

by_orders : {m n m' n' : ℕ} → ((p q : ℕ) → p * m < q * n → p * m' < q * n') → ((p q : ℕ) → q * n ≤ p * m → q * n' ≤ p * m')
    → ((p q : ℕ) → q * n < p * m → q * n' < p * m') → ((p q : ℕ) → p * m ≤ q * n → p * m' ≤ q * n') → Alike m n m' n'
by_orders a b c d = record { less = λ p q. same_test (a p q) (b p q); more = λ p q. same_test (c p q) (d p q) }

-- the code's factors and those of thousandths
abbrev Factors : ℕ → ℕ → Type 0
Factors d e = Alike (tens e) (tens d) (tens (3 - d)) (tens (3 - e))

factors : (d : ℕ) → d ≤ 3 → (e : ℕ) → e ≤ 3 → Factors d e
unfolding tens first
factors =
    four (λ (d : ℕ). (e : ℕ) → e ≤ 3 → Factors d e)
    (four (Factors 0)
    (by_orders (λ p q h. omega arith) (λ p q h. omega arith) (λ p q h. omega arith) (λ p q h. omega arith))
    (by_orders (λ p q h. omega arith) (λ p q h. omega arith) (λ p q h. omega arith) (λ p q h. omega arith))
    (by_orders (λ p q h. omega arith) (λ p q h. omega arith) (λ p q h. omega arith) (λ p q h. omega arith))
    (by_orders (λ p q h. omega arith) (λ p q h. omega arith) (λ p q h. omega arith) (λ p q h. omega arith)))
    (four (Factors 1)
    (by_orders (λ p q h. omega arith) (λ p q h. omega arith) (λ p q h. omega arith) (λ p q h. omega arith))
    (by_orders (λ p q h. omega arith) (λ p q h. omega arith) (λ p q h. omega arith) (λ p q h. omega arith))
    (by_orders (λ p q h. omega arith) (λ p q h. omega arith) (λ p q h. omega arith) (λ p q h. omega arith))
    (by_orders (λ p q h. omega arith) (λ p q h. omega arith) (λ p q h. omega arith) (λ p q h. omega arith)))
    (four (Factors 2)
    (by_orders (λ p q h. omega arith) (λ p q h. omega arith) (λ p q h. omega arith) (λ p q h. omega arith))
    (by_orders (λ p q h. omega arith) (λ p q h. omega arith) (λ p q h. omega arith) (λ p q h. omega arith))
    (by_orders (λ p q h. omega arith) (λ p q h. omega arith) (λ p q h. omega arith) (λ p q h. omega arith))
    (by_orders (λ p q h. omega arith) (λ p q h. omega arith) (λ p q h. omega arith) (λ p q h. omega arith)))
    (four (Factors 3)
    (by_orders (λ p q h. omega arith) (λ p q h. omega arith) (λ p q h. omega arith) (λ p q h. omega arith))
    (by_orders (λ p q h. omega arith) (λ p q h. omega arith) (λ p q h. omega arith) (λ p q h. omega arith))
    (by_orders (λ p q h. omega arith) (λ p q h. omega arith) (λ p q h. omega arith) (λ p q h. omega arith))
    (by_orders (λ p q h. omega arith) (λ p q h. omega arith) (λ p q h. omega arith) (λ p q h. omega arith)))

turned : {m n m' n' : ℕ} → Alike m n m' n' → Alike n m n' m'
turned a = record { less = λ p q. a.more q p; more = λ p q. a.less q p }

some_tens : (d : ℕ) → d ≤ 3 → 0 < tens d
unfolding tens first
some_tens = four (λ (d : ℕ). 0 < tens d) (omega arith) (omega arith) (omega arith) (omega arith)

pub same_digits : SameDigits
unfolding judged in_same_digits orders thousandths whole first
same_digits v w d e few few' comparison =
    let f = factors d few e few' in
    rw (
      scaled f (some_tens e few') (some_tens (3 - d) (omega arith)) v w,
      scaled (turned f) (some_tens d few) (some_tens (3 - e) (omega arith)) w v,
    )

pub reals_as_before : RealsAsBefore
unfolding judged first
reals_as_before x (Whole n) d e comparison = (refl, refl)
reals_as_before x (Real y) d e comparison = (refl, refl)
reals_as_before x Error d e comparison = (refl, refl)
reals_as_before x Absent d e comparison = (refl, refl)

-- ---- a logic block's signal is table 4010h's

record Selects (unit : List ℕ) : Type 0 where
  size : length unit ≡ unit_size
  given : (k : ℕ) → k < 2 → held unit logics (k + 1) ≡ sourced unit 3 (entry unit 0x4010 (k + 1))

-- both stand behind what can be written, and before what the last tick found
module _ (u v : List ℕ) (same : (slot : ℕ) → writable ≤ slot → slot < before_at → get_or v slot 0 ≡ get_or u slot 0) where
  held_same : (kind n : ℕ) → kind + (n - 1) < blocks → held v kind n ≡ held u kind n
  unfolding held at_row place
  held_same kind n h =
      let at = signals_at + 2 * (kind + (n - 1)) in
      rw (same at (omega (arith, Names.counted, signals_behind)) (omega (arith, signals_before)), same (at + 1) (omega (arith, Names.counted, signals_behind)) (omega (arith, signals_before)))

  -- a number past the last table's names nothing
  table_same : (n : ℕ) → sourced v 3 n ≡ sourced u 3 n
  unfolding sourced among first
  table_same n = by (ltb 6 n) refl
    where
      by : (past : Bool) → ltb 6 n ≡ past → first (eqb n 0) Absent (first past Absent (held v tables n)) ≡ first (eqb n 0) Absent (first past Absent (held u tables n))
      by true e = refl
      by false e = let l = ltb-false 6 n e in rw (held_same tables n (omega arith))

  still : length v ≡ length u → Selects u → Selects v
  unfolding entry has
  still long s =
      record {
        size = long ∙ s.size;
        given = λ k h. let here = array 0x4010 refl k h in
            held_same logics (k + 1) (omega arith) ∙ s.given k h ∙ sym (table_same _)
            ∙ ap (sourced v 3) (sym (same (slot_of 0x4010 (k + 1)) (omega (arith, Names.counted)) (omega (arith, Names.counted, signals_behind, signals_before))));
      }

after_frame : (unit f : List ℕ) (room : ℕ) (a : Answer) → answer unit f room ≡ a → Selects unit → Selects (after unit a)
unfolding after
after_frame unit f room None e s = s
after_frame unit f room (Some (Err a)) e s = s
after_frame unit f room (Some (Ok (Value w n))) e s = s
after_frame unit f room (Some (Ok (Written slot word))) e s =
    let under = (Accepted.accepted unit f room slot word e).below in
    still unit _ (λ k h l. forgets_only (set unit slot word) k (λ z. omega (arith, mark_behind)) ∙ (set_keeps unit slot word (λ z. omega arith)).word) (size_stored unit slot word) s

after_load : (unit image : List ℕ) → Selects unit → Selects (loaded image unit (reading image))
after_load unit image s =
    let long : configured ≤ length unit = omega (arith, s.size, Running.sizes) in
    still unit _ (λ k h l. (Running.low_by_load image unit long (reading image) k (omega (arith, Names.counted)) l).word) (Running.size_by_load image unit long (reading image)) s

on : (events : List Event) (unit : List ℕ) → Selects unit → Selects (run events unit)
unfolding run happens
on [] unit s = s
on (frame f room ∷ es) unit s = on es _ (after_frame unit f room (answer unit f room) refl s)
on (tick samples ∷ es) unit s =
    on es _ (record { size = Tick.length_kept samples unit ∙ s.size; given = λ k. logic_selects samples unit s.size k })
on (load image ∷ es) unit s = on es _ (after_load unit image s)

-- no table's signal and no number
at_first : (k : ℕ) → k < 2 → held at_start logics (k + 1) ≡ sourced at_start 3 (entry at_start 0x4010 (k + 1))
unfolding held at_row place of_words sourced among entry slot_of at_start starts words signals_at runs_at flags_at unit_size first
at_first zero h = refl
at_first (suc zero) h = refl
at_first (suc (suc k)) h = absurd (omega arith)

pub given_by_its_table : GivenByItsTable
given_by_its_table events b k h = (on events at_start (record { size = Running.size_at_start; given = at_first })).given k h
