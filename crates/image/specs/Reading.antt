-- "Readings refuse, records in order": what reading an image finds.
-- Assumes nothing.
use Rattle.std.specs.Prelude.{ℕ, Bool, not, List, ltb, length, drop, Result, Ok, Err, ⊤}
use Rattle.numbers.specs.Choice.{first, every}
use Rattle.numbers.specs.Order.{below}
use Rattle.roles.specs.Chains.{Neighbours, chains}
use Rattle.entries.specs.Judge.{held}
use Rattle.records.specs.Layout.{listed}
use Rattle.records.specs.Walk.{taken_in, values}
use Rattle.records.specs.declared.types.Refusal.TheVariants.{OutOfOrder, LeftOver}
use Rattle.records.specs.declared.types.Refusal.{Refusal}

-- two neighbours in order: the upper one greater, or at least not smaller
unfoldable pub in_place : List ℕ → Neighbours → Bool
in_place words n =
    first n.strict (below (held words n.lower) (held words n.upper)) (not (below (held words n.upper) (held words n.lower)))

unfoldable pub in_order : List ℕ → Bool
in_order words = every (in_place words) chains

-- the configuration that an image's records hold
unfoldable pub configuration_in : List ℕ → List ℕ
configuration_in image = values listed (drop 4 image)

-- "then 7 bytes left over; then 6 chain"
unfoldable pub finished : List ℕ → Result ℕ Refusal → Result ⊤ Refusal
finished image (Ok n) =
    first (ltb n (length image)) (Err LeftOver)
    (first (not (in_order (configuration_in image))) (Err OutOfOrder) (Ok tt))
finished image (Err why) = Err why

unfoldable pub reading : List ℕ → Result ⊤ Refusal
reading image = finished image (taken_in image)
