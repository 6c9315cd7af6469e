-- A judgement taken apart: what a good one tells, and that only the configuration's words count.
-- Assumes nothing.
use mathlib.Core.Path.{◌≡◌, refl}
use mathlib.Core.Bool.{Bool, true, false}
use mathlib.Core.List.{List}
use Prim.Native.Nat.{ℕ, ◌<◌}
use lib.ListN.{get_or}
use Rattle.std.specs.Prelude.{Result, Ok, Err, ⊤}
use Rattle.std.specs.Result.{result_and}
use Rattle.numbers.specs.Choice.{first}
use Rattle.numbers.specs.Signed.{signed16}
use Rattle.dictionary.specs.Names.{configured}
use Rattle.roles.specs.Chains.{upper_of, lower_of}
use Rattle.entries.specs.Judge.{in_range, past_upper, past_lower, in_order, judged}
use Rattle.roles.specs.Values.{range_of}
use Rattle.entries.specs.declared.types.Fault.{Fault}
use Rattle.entries.specs.declared.types.Fault.TheVariants.{ChainUp, ChainDown}
use Rattle.entries.proofs.Neighbours.{another, is_another, upper_another, lower_another, upper_same, lower_same}

both_good : (range chain : Result ⊤ Fault) → result_and range chain ≡ Ok tt → (range ≡ Ok tt) × (chain ≡ Ok tt)
both_good (Ok x) chain e = (refl, e)
both_good (Err fault) chain e = (e, cc)

past_neither : (up down : Bool) → ◌≡◌ {A = Result ⊤ Fault} (first up (Err ChainUp) (first down (Err ChainDown) (Ok tt))) (Ok tt) → (up ≡ false) × (down ≡ false)
unfolding first
past_neither true down e = (cc, cc)
past_neither false true e = (refl, cc)
past_neither false false e = (refl, refl)

pub record Fitting (words : List ℕ) (slot word : ℕ) : Type 0 where
  pub inside : in_range (range_of slot) word ≡ Ok tt
  pub upward : past_upper words (upper_of slot) (signed16 word) ≡ false
  pub downward : past_lower words (lower_of slot) (signed16 word) ≡ false

pub fitting : (words : List ℕ) (slot word : ℕ) → judged words slot word ≡ Ok tt → Fitting words slot word
unfolding judged in_order
fitting words slot word e =
    let both = both_good (in_range (range_of slot) word) (in_order words slot word) e in
    let neither = past_neither (past_upper words (upper_of slot) (signed16 word)) (past_lower words (lower_of slot) (signed16 word)) both.1 in
    record { inside = both.0; upward = neither.0; downward = neither.1 }

module _ (words other : List ℕ) (same : (k : ℕ) → k < configured → get_or words k 0 ≡ get_or other k 0) (slot word : ℕ) (h : slot < configured) where
  near_same : (u : ℕ) → another slot u ≡ true → get_or words u 0 ≡ get_or other u 0
  near_same u e = same u (is_another slot u e).0

  pub judged_same : judged words slot word ≡ judged other slot word
  unfolding judged in_order
  judged_same =
      rw (
        upper_same words other (another slot) near_same (upper_of slot) (upper_another slot h) (signed16 word),
        lower_same words other (another slot) near_same (lower_of slot) (lower_another slot h) (signed16 word),
      )
