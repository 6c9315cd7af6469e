-- `reading::order::in_order` meets its contract: the runs are the links between the entries, by their places in an image, by computing (`PlaceLaws`),
-- and what is left of them decides (`OrderLaws`).
-- Assumes nothing.
use mathlib.Core.Path.{◌≡◌}
use mathlib.Core.List.{flat_map}
use lib.ListN.{drop}
use Rattle.numbers.specs.Choice.{every}
use Rattle.image.specs.Places.{rises, run_of}
use Rattle.image.specs.Reading.{in_order, configuration_in}
use Rattle.image.proofs.reading.order.in_order.Given as goal

abbrev pub invariant-loop-run : goal.invariant-loop-run
invariant-loop-run l = in_order (configuration_in l.image) ≡ every (rises l.image) (flat_map run_of (drop l.run-index l.run-items))
