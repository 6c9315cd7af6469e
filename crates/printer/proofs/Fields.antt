-- The fields of a line one after the other, each a decimal.
-- Assumes nothing.
use Prim.Native.Nat.{ℕ, suc, ◌+◌, ◌<◌, ◌≤◌}
use mathlib.Core.Bool.{false, ◌&&◌, and-false}
use mathlib.Core.List.{List, [], ◌∷◌, ◌++◌, map, append_assoc, append-nil}
use mathlib.Core.Path.{◌≡◌, refl, ap, ◌∙◌}
use native.Mathlib.Omega.{arith}
use native.Mathlib.Nat.{zero-add}
use native.Mathlib.Numerals.{add-one}
use borrow.Author.Tests.{eq-eqb, ne_eqb}
use Rattle.std.specs.Prelude.{Option, Some, None}
use lib.Dec.{eqb}
use lib.IntN.{ℤ}
use lib.ListN.{length, take, drop, get_or, set, drop_of_length-le, length-append, length-set}
use lib.Seq.{drop-cons, length-take-le, take_all, take-suc-set}
use Rattle.numbers.specs.Choice.{first, every}
use Rattle.printer.specs.Reading.{value_of, is_decimal, unknown, tick_of, asked_tick}
use Rattle.printer.specs.Steps.{number_read}
use Rattle.printer.specs.declared.reading.Request.{Request}
use Rattle.printer.proofs.Every.{chosen, passed, some_none}
use Rattle.std.proofs.lemmas.Option.{none-some}

-- the samples read so far, and the fields that are left
unfoldable pub tick_from : List ℤ → List (List ℕ) → Option Request
tick_from done rest = first (eqb (length done + length rest) 4 && every is_decimal rest) (tick_of (done ++ map value_of rest)) unknown

-- of all fields so many are read, into the first of the samples
pub record Read (samples : List ℤ) (count turns : ℕ) (all : List (List ℕ)) : Type 0 where
  pub long : length samples ≡ 4
  pub counted : count ≡ turns
  pub few : count ≤ 4
  pub asks : asked_tick all ≡ tick_from (take count samples) (drop count all)

pub begun : (samples : List ℤ) (all : List (List ℕ)) → length samples ≡ 4 → Read samples 0 0 all
unfolding asked_tick tick_from
begun samples all l = record { long = l; counted = refl; few = omega arith; asks = rw (zero-add (length all)) }

module _ {samples : List ℤ} {count turns : ℕ} {all : List (List ℕ)} (r : Read samples count turns all) where
  done_long : length (take count samples) ≡ count
  done_long = length-take-le count samples (omega (arith, r.long, r.few))

  -- the next field
  module _ (f : List ℕ) (turn : (turns < length all) × (f ≡ get_or all turns f)) where
    next : drop count all ≡ f ∷ drop (count + 1) all
    next = rw r.counted (drop-cons all turns f turn.0 ∙ rw (← turn.1, add-one turns))

    pub too_many : count ≡ 4 → asked_tick all ≡ unknown
    unfolding tick_from first
    too_many e =
        r.asks ∙ rw (next, ne_eqb (length (take count samples) + suc (length (drop (count + 1) all))) 4 (λ q. omega (arith, done_long)))

    pub no_decimal : number_read f ≡ None → asked_tick all ≡ unknown
    unfolding number_read tick_from every first
    no_decimal e =
        let k : is_decimal f ≡ false = passed (is_decimal f) (Some (value_of f)) None (some_none (value_of f)) e in
        r.asks ∙ rw (next, k, and-false (eqb (length (take count samples) + suc (length (drop (count + 1) all))) 4))

    pub one_more : (v : ℤ) → number_read f ≡ Some v → count < 4 → Read (set samples count v) (count + 1) (turns + 1) all
    unfolding number_read tick_from every
    one_more v e h =
        let k = chosen (is_decimal f) (Some (value_of f)) None (Some v) (none-some v) e in
        let same : value_of f ≡ v = let q = k.1 in cc in
        let done = take count samples in
        let size : length (done ++ v ∷ []) + length (drop (suc count) all) ≡ length done + suc (length (drop (suc count) all)) = simp length-append (omega arith) in
        record {
          long = simp length-set r.long;
          counted = ap (λ (n : ℕ). n + 1) r.counted;
          few = omega arith;
          asks = r.asks ∙ rw (next, k.0, same, add-one count, take-suc-set samples count v (omega (arith, r.long)), size, append_assoc done (v ∷ []) (map value_of (drop (suc count) all)));
        }

  -- no field is left
  module _ (e : turns ≡ length all) where
    none_left : drop count all ≡ []
    none_left = drop_of_length-le all (omega (arith, r.counted))

    pub too_few : count < 4 → asked_tick all ≡ unknown
    unfolding tick_from first
    too_few h = r.asks ∙ rw (none_left, ne_eqb (length (take count samples) + 0) 4 (λ q. omega (arith, done_long)))

    pub complete : 4 ≤ count → asked_tick all ≡ tick_of samples
    unfolding tick_from first every
    complete h =
        let full : take count samples ++ [] ≡ samples = append-nil (take count samples) ∙ take_all count samples (omega (arith, r.long)) in
        r.asks ∙ rw (none_left, eq-eqb (length (take count samples) + 0) 4 (omega (arith, done_long, r.few))) (ap tick_of full)
