-- An answer has at most 43 bytes, of any words.
-- Assumes nothing.
use Prim.Native.Nat.{ℕ, zero, suc, ◌≤◌}
use mathlib.Core.List.{List, [], ◌∷◌}
use native.Mathlib.Omega.{arith}
use lib.Dec.{ltb, lit≤}
use lib.ListN.{length, length-append}
use Rattle.numbers.specs.Choice.{first}
use Rattle.numbers.proofs.Choices.{chosen}
use Rattle.octets.specs.Little.{bytes}
use Rattle.signals.specs.Signal.{is_error}
use Rattle.signals.specs.Words.{kind_of}
use Rattle.why.specs.Answer.{answered, end_number, value, pairs, trail_bytes, signal, signal_bytes, decider, decided, explained, AlwaysFits}
use Rattle.why.specs.Seen.{block_of}
use Rattle.why.specs.Trail.{Trail, next, after, stepped, follow, trail}
use Rattle.why.specs.declared.types.End.TheVariants.{Earlier}
use Rattle.why.specs.declared.types.Next.{Next}
use Rattle.why.specs.declared.types.Next.TheVariants.{Ends, Reads}
use Rattle.unit.specs.declared.pairs.Pair.{Pair}
use Rattle.std.specs.Prelude.{Result, Ok, Err}
use Rattle.why.specs.declared.types.Untold.{Untold}
use Rattle.why.proofs.Bytes.{twice}

Few : ℕ → Trail → Type 0
Few n t = length t.steps ≤ n

no_more : (left : ℕ) (unit : List ℕ) (row : ℕ) → Few left (follow left unit row)
unfolding follow stepped after Few
no_more zero unit row = omega arith
no_more (suc left) unit row = by (next unit row) (no_more left unit) where
  by : (n : Next) → ((q : ℕ) → Few left (follow left unit q)) → Few (suc left) (stepped (follow left unit) row n)
  by (Ends e) more = omega arith
  by (Reads p) more =
      chosen (Few (suc left)) (ltb (block_of p) row) (after p (follow left unit (block_of p))) (record { steps = p ∷ []; end = Earlier })
      (λ e. let m = more (block_of p) in omega arith) (λ e. omega arith)

trail_few : (unit : List ℕ) (p : Pair) → length (trail_bytes (trail unit p)) ≤ 36
unfolding trail_bytes trail after Few
trail_few unit p =
    let t = trail unit p in
    let m = no_more 16 unit (block_of p) in
    omega (arith, twice t.steps, length-append (pairs t.steps) (end_number t.end ∷ []))

decided_few : (unit : List ℕ) (p : Pair) → length (decided unit p) ≤ 43
unfolding decided signal_bytes bytes
decided_few unit p =
    let s = signal unit p in
    let behind = first (is_error s) (trail_bytes (trail unit p)) [] in
    let few = chosen (λ (l : List ℕ). length l ≤ 36) (is_error s) (trail_bytes (trail unit p)) [] (λ e. trail_few unit p) (λ e. lit≤ tt) in
    omega (arith, length-append (p.source ∷ p.number ∷ kind_of s ∷ bytes 4 (value s)) behind)

pub always_fits : AlwaysFits
unfolding explained
always_fits unit n = by (answered unit n) where
  by : (w : Result ℕ Untold) → length (explained unit n w) ≤ 43
  by (Err untold) = lit≤ tt
  by (Ok rule) = decided_few unit (decider unit n rule)
