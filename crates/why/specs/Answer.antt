-- What is told of an output: a number, and the bytes of `trail`.
-- "given the state after a tick and an output number, name the rule (1 to 7), the signal that decided it, and for an error the trail".
-- Assumes nothing.
use Rattle.std.specs.Prelude.{ℕ, ◌+◌, ◌%◌, ◌≤◌, Bool, ◌||◌, List, [], ◌∷◌, ◌++◌, eqb, ltb, ℤ, pos, negsuc, length, get_or, ◌≡◌, Result, Ok, Err}
use Rattle.std.proofs.lemmas.List.Edits.{sets}
use Rattle.numbers.specs.Choice.{first}
use Rattle.octets.specs.Little.{bytes}
use Rattle.dictionary.specs.Unit.{ticked_at}
use Rattle.signals.specs.Signal.{is_error}
use Rattle.signals.specs.Words.{kind_of, number_of_signal}
use Rattle.signals.specs.declared.signal.Signal.{Signal}
use Rattle.signals.specs.declared.signal.Signal.TheVariants.{Whole, Real, Error, Absent}
use Rattle.unit.specs.Sources.{sourced}
use Rattle.controller.specs.Commands.{rule_for}
use Rattle.why.specs.Trail.{Trail, pair, trail}
use Rattle.unit.specs.declared.pairs.Pair.{Pair}
use Rattle.why.specs.declared.types.End.{End}
use Rattle.why.specs.declared.types.End.TheVariants.{Flagged, Divided, Earlier}
use Rattle.why.specs.declared.types.Walked.{Walked}
use Rattle.why.specs.declared.types.Untold.{Untold}
use Rattle.why.specs.declared.types.Untold.TheVariants.{NoOutput, NoTick}

-- "output number outside 1..4"
unfoldable pub no_output : ℕ → Bool
no_output n = eqb n 0 || ltb 4 n

-- "a state with no tick since its start or last accepted write"
unfoldable pub no_tick : List ℕ → Bool
no_tick unit = eqb (get_or unit ticked_at 0) 0

-- "Refusals, named: output number outside 1..4; then .. no tick"
unfoldable pub answered : List ℕ → ℕ → Result ℕ Untold
answered unit n = first (no_output n) (Err NoOutput) (first (no_tick unit) (Err NoTick) (Ok (rule_for unit n)))

-- the number of each answer
unfoldable pub number : Result ℕ Untold → ℤ
number (Err NoOutput) = negsuc 0
number (Err NoTick) = negsuc 1
number (Ok rule) = pos rule

-- "the signal that decided it": rules 1, 2 enable; 3, 4 override; 5 to 7 control
unfoldable pub decider : List ℕ → ℕ → ℕ → Pair
decider unit n rule =
    first (ltb rule 3) (pair unit 0x2350 0x2351 n)
    (first (ltb rule 5) (pair unit 0x2360 0x2361 n)
    (pair unit 0x2340 0x2341 n))

-- how a trail ends
unfoldable pub end_number : End → ℕ
end_number Flagged = 1
end_number Divided = 2
end_number Earlier = 3

-- a number of 16 bits as the same number of 32
unfoldable pub extended : ℕ → ℕ
extended word = first (ltb word 0x8000) word (word % 0x10000 + 0xFFFF_0000)

-- a signal's value: "a whole number sign-extended, a REAL32 by its bits, else 0"
unfoldable pub value : Signal → ℕ
value (Whole v) = extended (number_of_signal (Whole v))
value (Real x) = number_of_signal (Real x)
value Error = 0
value Absent = 0

-- the pairs of some steps
unfoldable pub pairs : List Pair → List ℕ
pairs [] = []
pairs (p ∷ ps) = p.source ∷ p.number ∷ pairs ps

-- the number of steps, the steps, how they end
unfoldable pub trail_bytes : Trail → List ℕ
trail_bytes t = length t.steps ∷ pairs t.steps ++ (end_number t.end ∷ [])

-- source, number, kind, value; for an error the trail behind them
unfoldable pub signal_bytes : List ℕ → Pair → Signal → List ℕ
signal_bytes unit p s = (p.source ∷ p.number ∷ kind_of s ∷ bytes 4 (value s)) ++ first (is_error s) (trail_bytes (trail unit p)) []

-- the signal that a pair names
unfoldable pub signal : List ℕ → Pair → Signal
signal unit p = sourced unit p.source p.number

unfoldable pub decided : List ℕ → Pair → List ℕ
decided unit p = signal_bytes unit p (signal unit p)

-- "After a refusal all of `trail` stays."
unfoldable pub explained : List ℕ → ℕ → Result ℕ Untold → List ℕ
explained unit n (Err untold) = []
explained unit n (Ok rule) = decided unit (decider unit n rule)

-- VALVE_TRAIL bytes are always enough, of any words
abbrev pub AlwaysFits : Type 0
AlwaysFits = (unit : List ℕ) (n : ℕ) → length (explained unit n (answered unit n)) ≤ 43

-- what asking leaves: bytes behind these stay
pub record Explained (unit : List ℕ) (n : ℕ) (trail trail' : List ℕ) (r : Result ℕ Untold) : Type 0 where
  pub answer : r ≡ answered unit n
  pub bytes : trail' ≡ sets trail 0 (explained unit n (answered unit n))

-- the steps of a trail laid down behind their count
pub record Followed (unit : List ℕ) (p : Pair) (trail₀ trail' : List ℕ) (r : Walked) : Type 0 where
  pub bytes : trail' ≡ sets trail₀ 8 (pairs (trail unit p).steps)
  pub count : r.count ≡ length (trail unit p).steps
  pub end : r.end ≡ (trail unit p).end
