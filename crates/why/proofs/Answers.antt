-- Which answer an output gets.
-- Assumes nothing.
use Prim.Native.Nat.{ℕ, ◌<◌, ◌≤◌}
use mathlib.Core.List.{List}
use mathlib.Core.Path.{◌≡◌, sym, ap, ◌∙◌}
use native.Mathlib.Omega.{arith}
use borrow.Author.Tests.{eq-eqb, ne_eqb, lt-ltb, le-ltb}
use lib.ListN.{get_or}
use lib.Seq.{sets}
use Rattle.numbers.specs.Choice.{first}
use Rattle.dictionary.specs.Unit.{ticked_at}
use Rattle.controller.specs.Commands.{rule_for}
use Rattle.why.specs.Answer.{no_output, no_tick, answered, decider, decided, explained, Explained}
use Rattle.unit.specs.declared.pairs.Pair.{Pair}
use Rattle.std.specs.Prelude.{Ok, Err}
use Rattle.why.specs.declared.types.Untold.TheVariants.{NoOutput, NoTick}

module _ (unit : List ℕ) (n : ℕ) where
  pub too_low : n ≡ 0 → answered unit n ≡ Err NoOutput
  unfolding answered no_output first
  too_low e = rw e

  pub too_high : 4 < n → answered unit n ≡ Err NoOutput
  unfolding answered no_output first
  too_high h = rw (ne_eqb n 0 (λ e. omega arith), lt-ltb 4 n h)

  module _ (low : n ≡ 0 → ⊥) (high : n ≤ 4) where
    pub unticked_yet : get_or unit ticked_at 0 ≡ 0 → answered unit n ≡ Err NoTick
    unfolding answered no_output no_tick first
    unticked_yet e = rw (ne_eqb n 0 low, le-ltb 4 n high, eq-eqb (get_or unit ticked_at 0) 0 e)

    pub is_told : (get_or unit ticked_at 0 ≡ 0 → ⊥) → answered unit n ≡ Ok (rule_for unit n)
    unfolding answered no_output no_tick first
    is_told e = rw (ne_eqb n 0 low, le-ltb 4 n high, ne_eqb (get_or unit ticked_at 0) 0 e)

  -- a refusal leaves every byte
  pub refuses : (trail : List ℕ) → answered unit n ≡ Err NoOutput → Explained unit n trail trail (Err NoOutput)
  unfolding explained
  refuses trail e = record { answer = sym e; bytes = rw e }

  pub refuses_yet : (trail : List ℕ) → answered unit n ≡ Err NoTick → Explained unit n trail trail (Err NoTick)
  unfolding explained
  refuses_yet trail e = record { answer = sym e; bytes = rw e }

  pub tells : {rule : ℕ} {trail trail' : List ℕ} {p : Pair} → answered unit n ≡ Ok (rule_for unit n) → rule ≡ rule_for unit n → p ≡ decider unit n rule → trail' ≡ sets trail 0 (decided unit p)
      → Explained unit n trail trail' (Ok rule)
  unfolding explained
  tells {trail = trail} e r d put =
      record {
        answer = ap Ok r ∙ sym e;
        bytes = put ∙ ap (λ (q : Pair). sets trail 0 (decided unit q)) (d ∙ ap (decider unit n) r) ∙ rw e;
      }
