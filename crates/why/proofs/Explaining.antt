-- All that is told of an output after a tick is so.
-- Assumes nothing.
use Prim.Native.Nat.{ℕ, ◌+◌, ◌<◌}
use mathlib.Core.Bool.{true}
use mathlib.Core.List.{List}
use mathlib.Core.Path.{◌≡◌}
use native.Mathlib.Omega.{arith}
use lib.IntN.{ℤ}
use lib.ListN.{length}
use Rattle.numbers.specs.Order.{below}
use Rattle.numbers.proofs.Choices as choices
use Rattle.dictionary.specs.Unit.{unit_size}
use Rattle.logic.specs.Logics.{first_that_holds, chosen}
use Rattle.output.specs.Output.{driven}
use Rattle.output.proofs.OutputLaws.{some_rule}
use Rattle.output.specs.Commanded.{SomeRule}
use Rattle.output.specs.Outputs.{settings}
use Rattle.unit.specs.Entry.{entry, whole, byte}
use Rattle.unit.specs.Held.{logics, blocks}
use Rattle.controller.specs.Commands.{control, enable, override, rule_for}
use Rattle.controller.specs.Tick.{ticked}
use Rattle.controller.specs.Turns.{at_turn}
use Rattle.controller.proofs.Commands.{by_rule_lem}
use Rattle.controller.proofs.Numbers.{Rising}
use Rattle.controller.proofs.Saw as saws
use Rattle.controller.proofs.Shown.{number_shown, all_shown}
use Rattle.signals.specs.Signal.{is_error}
use Rattle.why.specs.Answer.{signal}
use Rattle.why.specs.Explains.{applies_to, Led, Explains}
use Rattle.why.specs.Trail.{trail}
use Rattle.why.specs.Trail as steps
use Rattle.unit.specs.declared.pairs.Pair.{Pair}
use Rattle.why.proofs.Causes.{cause}
use Rattle.why.proofs.Leads.{few, led}
use Rattle.why.proofs.Rules.{applied, no_earlier}
use Rattle.why.proofs.Sights.{as_seen, by_output, in_error_before}
use Rattle.why.proofs.Views.{error_block}

-- 4010h is a byte's number
number_small : (unit : List ℕ) (x : ℕ) → chosen unit x < 256
unfolding chosen first_that_holds byte
number_small unit x =
    let P : ℕ → Type 0 = λ n. n < 256 in
    choices.chosen P _ _ _ (λ e. omega arith) (λ e. choices.chosen P _ _ _ (λ e. omega arith) (λ e. choices.chosen P _ _ _ (λ e. omega arith) (λ e. choices.chosen P _ _ _ (λ e. omega arith) (λ e. omega arith))))

module _ (samples : List ℤ) (unit : List ℕ) (size : length unit ≡ unit_size) where
  number_whole : (k : ℕ) → k < 2 → byte (ticked samples unit) 0x4010 (k + 1) ≡ entry (ticked samples unit) 0x4010 (k + 1)
  unfolding byte
  number_whole k h = let is = number_shown samples unit size k h in let low = number_small (at_turn samples unit (logics + k)) (k + 1) in omega arith

  module _ (rising : (k : ℕ) → k < 4 → Rising unit (k + 1)) where
    -- the trail of a signal that an output saw in error
    leads : (p : Pair) → is_error (signal (ticked samples unit) p) ≡ true → Led unit (ticked samples unit) blocks (trail (ticked samples unit) p).steps (trail (ticked samples unit) p).end
    unfolding trail steps.after
    leads p e =
        let after = ticked samples unit in
        let low = error_block after p e in
        led unit after (as_seen samples unit size) (in_error_before samples unit size)
        (cause samples unit after (as_seen samples unit size) (saws.saw samples unit size rising) (all_shown samples unit size rising) number_whole)
        blocks blocks p low low (by_output after p e)

    pub explains : (k : ℕ) → k < 4 → below (whole unit 0x7321 (k + 1)) (whole unit 0x7323 (k + 1)) ≡ true → Explains unit (ticked samples unit) (k + 1)
    unfolding rule_for driven applies_to SomeRule
    explains k h order =
        let after = ticked samples unit in
        let s = settings after (k + 1) in
        let c = control after (k + 1) in
        let e = enable after (k + 1) in
        let o = override after (k + 1) in
        record {
          ruled = record { some = some_rule s c e o; gave = by_rule_lem samples unit size k h order; applied = applied s c e o; no_earlier = no_earlier s c e o };
          led = leads _;
          few = λ w. few (leads _ w);
        }
