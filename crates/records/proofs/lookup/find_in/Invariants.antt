-- `lookup::find_in` meets its contract: what is left of the records is searched in what is left of the bytes (`FindLaws`).
-- Assumes nothing.
use mathlib.Core.Path.{◌≡◌}
use Prim.Native.Nat.{◌-◌}
use Rattle.records.specs.LookUp.{looked}
use Rattle.records.proofs.lookup.find_in.Given as goal

abbrev pub invariant-loop : goal.invariant-loop
invariant-loop l = looked l.count l.index l.sub l.body ≡ looked (l.count - l.counter) l.index l.sub l.rest
