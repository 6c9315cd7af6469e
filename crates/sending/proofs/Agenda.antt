-- The turns of a restore list: every slot once on the way down, for what rises, and once on the way up, for what falls. At each
-- turn one slot, at each slot one turn of each kind, and of two neighbours the upper one further along; computed for all of them.
-- Assumes nothing.
use mathlib.Core.Path.{◌≡◌, refl}
use mathlib.Core.Bool.{Bool, true, false}
use mathlib.Core.List.{◌++◌, map, reverse}
use Prim.Native.Nat.{ℕ, suc, ◌+◌, ◌-◌, ◌<◌}
use lib.Dec.{ltb}
use borrow.Author.Tests.{ltb-true}
use Rattle.numbers.specs.Choice.{first}
use Rattle.dictionary.specs.Names.{configured, slot_of}
use Rattle.dictionary.proofs.Tabulate.{tabulate, agree}
use Rattle.roles.specs.Chains.{chains, upper_in, upper_of}
use Rattle.entries.proofs.Configuration.{at_each}
use Rattle.entries.proofs.Neighbours.{near}
use Rattle.sending.specs.Sending.{order}

-- a slot, and whether it is called for what rises
pub record Call : Type 0 where
  pub up : Bool
  pub slot : ℕ

abbrev pub call : Bool → ℕ → Call
call up slot = record { up = up; slot = slot }

-- the turns: twice as many as there are slots
unfoldable pub turns : ℕ
turns = configured + configured

-- ---- places in the order: 7148h to before 7149h have moved to before 7120h, and what stood there behind them

abbrev moved : ℕ → ℕ → ℕ → ℕ → ℕ
moved from middle to n = first (ltb n from) n (first (ltb n middle) (n + (to - middle)) (first (ltb n to) (n - (middle - from)) n))

unfoldable pub place : ℕ → ℕ
place slot = moved (slot_of 0x7120 1) (slot_of 0x7148 1) (slot_of 0x7149 1) slot

unfoldable pub slot_at : ℕ → ℕ
slot_at n = moved (slot_of 0x7120 1) (slot_of 0x7120 1 + (slot_of 0x7149 1 - slot_of 0x7148 1)) (slot_of 0x7149 1) n

-- the turn of a slot, and the call of a turn
unfoldable pub turn_of : Bool → ℕ → ℕ
turn_of up slot = first up (configured - suc (place slot)) (configured + place slot)

unfoldable pub call_at : ℕ → Call
call_at t = first (ltb t configured) (call true (slot_at (configured - suc t))) (call false (slot_at (t - configured)))

pub agenda_computed : map (call true) (reverse order) ++ map (call false) order ≡ tabulate turns 0 call_at
unfolding order tabulate turns call_at slot_at first configured slot_of
agenda_computed = refl

turns_computed : tabulate turns 0 (λ t. turn_of (call_at t).up (call_at t).slot) ≡ tabulate turns 0 (λ t. t)
unfolding tabulate turns call_at slot_at turn_of place first configured slot_of
turns_computed = refl

calls_computed : (up : Bool) → tabulate configured 0 (λ slot. call_at (turn_of up slot)) ≡ tabulate configured 0 (call up)
unfolding tabulate call_at slot_at turn_of place first configured slot_of
calls_computed true = refl
calls_computed false = refl

slots_computed : tabulate turns 0 (λ t. ltb (call_at t).slot configured) ≡ tabulate turns 0 (λ t. true)
unfolding tabulate turns call_at slot_at first configured slot_of
slots_computed = refl

places_computed : tabulate configured 0 (λ slot. ltb (place slot) configured) ≡ tabulate configured 0 (λ slot. true)
unfolding tabulate place first configured slot_of
places_computed = refl

further_computed : tabulate configured 0 (λ slot. near (λ u. ltb (place slot) (place u)) (upper_of slot)) ≡ tabulate configured 0 (λ slot. true)
unfolding tabulate place first configured slot_of near chains upper_of upper_in
further_computed = refl

-- ---- and handed on at each turn and each slot

pub turn_at : (t : ℕ) → t < turns → turn_of (call_at t).up (call_at t).slot ≡ t
turn_at = agree turns (λ t. turn_of (call_at t).up (call_at t).slot) (λ t. t) 0 turns_computed

pub called : (up : Bool) (slot : ℕ) → slot < configured → call_at (turn_of up slot) ≡ call up slot
called up = at_each (λ slot. call_at (turn_of up slot)) (call up) (calls_computed up)

pub slot_inside : (t : ℕ) → t < turns → (call_at t).slot < configured
slot_inside t h = ltb-true (call_at t).slot configured (agree turns (λ t. ltb (call_at t).slot configured) (λ t. true) true slots_computed t h)

pub place_inside : (slot : ℕ) → slot < configured → place slot < configured
place_inside slot h = ltb-true (place slot) configured (at_each (λ slot. ltb (place slot) configured) (λ slot. true) places_computed slot h)

pub further : (slot : ℕ) → slot < configured → near (λ u. ltb (place slot) (place u)) (upper_of slot) ≡ true
further = at_each (λ slot. near (λ u. ltb (place slot) (place u)) (upper_of slot)) (λ slot. true) further_computed
