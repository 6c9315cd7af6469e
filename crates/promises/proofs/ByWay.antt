-- The promises of going by way of a third setup: counts by the laws of `sending`, the end by two arrivals.
-- Assumes nothing.
use mathlib.Core.Path.{◌≡◌, sym, ◌∙◌}
use mathlib.Core.List.{List}
use Prim.Native.Nat.{ℕ}
use native.Mathlib.Omega.{arith}
use lib.ListN.{length}
use Rattle.records.specs.Layout.{image_of}
use Rattle.image.specs.Reading.{configuration_in}
use Rattle.sending.specs.Sending.{apart}
use Rattle.sending.proofs.ByWay.{apart_back, apart_cost, apart_by_way, apart_exactly}
use Rattle.promises.specs.ByWay.{Call, count, frames, ThereAndBack, ByWay, CostOfTheWay, SameEnd}
use Rattle.promises.specs.Restoring.{Holds, Sent}
use Rattle.promises.proofs.Restoring.{count_is_difference, arrives}

module _ {current wanted : List ℕ} (call : Call current wanted) where
  counted : count call ≡ apart (configuration_in current) (configuration_in wanted)
  counted = (count_is_difference current wanted call.buffer call.buffer' call.r call.called).0

  many : length (frames call) ≡ apart (configuration_in current) (configuration_in wanted)
  many = (count_is_difference current wanted call.buffer call.buffer' call.r call.called).1

  -- its list, sent to a unit that holds the first, leaves the second
  leaves : {unit unit' : List ℕ} → Holds unit (configuration_in current) → Sent (frames call) unit unit' → Holds unit' (configuration_in wanted) × (image_of unit' ≡ wanted)
  leaves {unit} {unit'} h s = arrives current wanted call.buffer call.buffer' call.r unit (record { called = call.called; holds = h }) unit' s

pub there_and_back : ThereAndBack
there_and_back a b there back = counted there ∙ apart_back (configuration_in a) (configuration_in b) ∙ sym (counted back)

pub by_way : ByWay
by_way a b c first second direct =
    let exactly = apart_exactly (configuration_in a) (configuration_in b) (configuration_in c) in (
      omega (arith, counted first, counted second, counted direct, apart_by_way (configuration_in a) (configuration_in b) (configuration_in c)),
      (λ between. omega (arith, counted first, counted second, counted direct, exactly.0 between)),
      λ e. exactly.1 (omega (arith, e, counted first, counted second, counted direct)),
    )

pub cost_of_the_way : CostOfTheWay
cost_of_the_way a b c first second direct =
    omega (arith, many first, many second, many direct, apart_cost (configuration_in a) (configuration_in b) (configuration_in c))

pub same_end : SameEnd
same_end a b c first second direct unit h midway by_way at_once s t d =
    let end = leaves second (leaves first h s).0 t in
    let other = leaves direct h d in (end.0.front ∙ sym other.0.front, end.1 ∙ sym other.1)
