-- The configuration at start may stand: computed for all its slots.
-- Assumes nothing.
use mathlib.Core.Path.{◌≡◌, refl}
use mathlib.Core.Bool.{true, false}
use Prim.Native.Nat.{◌^◌}
use lib.Dec.{ltb}
use lib.ListN.{get_or}
use borrow.Author.Tests.{ltb-true}
use Rattle.std.specs.Prelude.{Ok}
use Rattle.numbers.specs.Choice.{first}
use Rattle.numbers.specs.Order.{below}
use Rattle.numbers.specs.Signed.{twos, signed16}
use Rattle.dictionary.specs.Names.{configured}
use Rattle.dictionary.specs.Rows.{width}
use Rattle.dictionary.proofs.Tabulate.{tabulate}
use Rattle.roles.specs.Chains.{chains, upper_in, upper_of}
use Rattle.entries.specs.Judge.{number_of, finite, within, in_range, held, past_upper}
use Rattle.entries.specs.Valid.{Valid}
use Rattle.roles.specs.Values.{range_of, starts, at_start}
use Rattle.entries.proofs.Configuration.{at_each}

sizes_computed : tabulate configured 0 (λ slot. ltb (get_or at_start slot 0) (256 ^ width (range_of slot).kind)) ≡ tabulate configured 0 (λ slot. true)
unfolding tabulate configured at_start starts range_of width
sizes_computed = refl

ranges_computed : tabulate configured 0 (λ slot. in_range (range_of slot) (get_or at_start slot 0)) ≡ tabulate configured 0 (λ slot. Ok tt)
unfolding tabulate configured at_start starts range_of in_range finite number_of within first below twos signed16
ranges_computed = refl

links_computed : tabulate configured 0 (λ slot. past_upper at_start (upper_of slot) (held at_start slot)) ≡ tabulate configured 0 (λ slot. false)
unfolding tabulate configured at_start starts past_upper held chains upper_of upper_in first below twos signed16
links_computed = refl

pub valid_at_start : Valid at_start
valid_at_start =
    record {
      sized = λ slot h. ltb-true (get_or at_start slot 0) (256 ^ width (range_of slot).kind) (at_each (λ slot. ltb (get_or at_start slot 0) (256 ^ width (range_of slot).kind)) (λ slot. true) sizes_computed slot h);
      ranged = at_each (λ slot. in_range (range_of slot) (get_or at_start slot 0)) (λ slot. Ok tt) ranges_computed;
      linked = at_each (λ slot. past_upper at_start (upper_of slot) (held at_start slot)) (λ slot. false) links_computed;
    }
