-- The neighbours of the configuration's slots: other slots of the configuration, each the other's; computed for all of them.
-- Assumes nothing.
use mathlib.Core.Path.{◌≡◌, refl, ap}
use mathlib.Core.Bool.{Bool, true, not, ◌&&◌, and-eq-true_iff}
use mathlib.Core.List.{List}
use Prim.Native.Nat.{ℕ, ◌<◌}
use lib.Dec.{eqb, ltb}
use lib.IntN.{ℤ}
use lib.ListN.{get_or}
use borrow.Author.Tests.{ltb-true, eqb-false, not-true}
use Rattle.numbers.specs.Choice.{first}
use Rattle.numbers.specs.Order.{below}
use Rattle.numbers.specs.Signed.{signed16}
use Rattle.dictionary.specs.Names.{configured}
use Rattle.dictionary.proofs.Tabulate.{tabulate}
use Rattle.roles.specs.Chains.{chains, upper_in, lower_in, upper_of, lower_of}
use Rattle.entries.specs.Judge.{held, past_upper, past_lower}
use Rattle.roles.specs.declared.types.Link.{Link}
use Rattle.roles.specs.declared.types.Link.TheVariants.{Free, Loose, Strict}
use Rattle.entries.proofs.Configuration.{at_each}

-- a test that the neighbour passes, if there is one
unfoldable pub near : (ℕ → Bool) → Link → Bool
near p Free = true
near p (Loose u) = p u
near p (Strict u) = p u

-- another slot of the configuration
unfoldable pub another : ℕ → ℕ → Bool
another slot u = ltb u configured && not (eqb u slot)

pub is_another : (slot u : ℕ) → another slot u ≡ true → (u < configured) × (u ≡ slot → ⊥)
unfolding another
is_another slot u e =
    let both = (and-eq-true_iff (ltb u configured) (not (eqb u slot))).0 e in
    (ltb-true u configured both.0, eqb-false u slot (not-true (eqb u slot) both.1))

uppers_computed : tabulate configured 0 (λ slot. near (another slot) (upper_of slot)) ≡ tabulate configured 0 (λ slot. true)
unfolding tabulate configured near another chains upper_of upper_in first
uppers_computed = refl

pub upper_another : (slot : ℕ) → slot < configured → near (another slot) (upper_of slot) ≡ true
upper_another = at_each (λ slot. near (another slot) (upper_of slot)) (λ slot. true) uppers_computed

lowers_computed : tabulate configured 0 (λ slot. near (another slot) (lower_of slot)) ≡ tabulate configured 0 (λ slot. true)
unfolding tabulate configured near another chains lower_of lower_in first
lowers_computed = refl

pub lower_another : (slot : ℕ) → slot < configured → near (another slot) (lower_of slot) ≡ true
lower_another = at_each (λ slot. near (another slot) (lower_of slot)) (λ slot. true) lowers_computed

-- the link of the neighbour above back down, and what it has to be
unfoldable pub back_down : Link → Link
back_down Free = Free
back_down (Loose u) = lower_of u
back_down (Strict u) = lower_of u

unfoldable pub turned : ℕ → Link → Link
turned slot Free = Free
turned slot (Loose u) = Loose slot
turned slot (Strict u) = Strict slot

backs_computed : tabulate configured 0 (λ slot. back_down (upper_of slot)) ≡ tabulate configured 0 (λ slot. turned slot (upper_of slot))
unfolding tabulate configured back_down turned chains upper_of upper_in lower_of lower_in first
backs_computed = refl

pub both_ways : (slot : ℕ) → slot < configured → back_down (upper_of slot) ≡ turned slot (upper_of slot)
both_ways = at_each (λ slot. back_down (upper_of slot)) (λ slot. turned slot (upper_of slot)) backs_computed

-- ---- only the neighbour's word counts

module _ (words other : List ℕ) (p : ℕ → Bool) (same : (u : ℕ) → p u ≡ true → get_or words u 0 ≡ get_or other u 0) where
  pub upper_same : (link : Link) → near p link ≡ true → (v : ℤ) → past_upper words link v ≡ past_upper other link v
  unfolding near past_upper held
  upper_same Free e v = refl
  upper_same (Loose u) e v = ap (λ (w : ℕ). below (signed16 w) v) (same u e)
  upper_same (Strict u) e v = ap (λ (w : ℕ). not (below v (signed16 w))) (same u e)

  pub lower_same : (link : Link) → near p link ≡ true → (v : ℤ) → past_lower words link v ≡ past_lower other link v
  unfolding near past_lower held
  lower_same Free e v = refl
  lower_same (Loose u) e v = ap (λ (w : ℕ). below v (signed16 w)) (same u e)
  lower_same (Strict u) e v = ap (λ (w : ℕ). not (below (signed16 w) v)) (same u e)
