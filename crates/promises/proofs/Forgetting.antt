-- A unit that forgets its tick holds the configuration that it held.
-- Assumes nothing.
use mathlib.Core.Path.{◌≡◌, sym, ap, ◌∙◌, subst}
use mathlib.Core.List.{List}
use Prim.Native.Nat.{ℕ, ◌^◌, ◌<◌}
use native.Mathlib.Omega.{arith}
use lib.ListN.{length, get_or, set, length-set}
use Rattle.numbers.specs.Signed.{signed16}
use Rattle.dictionary.specs.Names.{configured}
use Rattle.dictionary.specs.Rows.{width}
use Rattle.dictionary.specs.Unit.{unticked}
use Rattle.dictionary.proofs.naming.NameLaws.{counted}
use Rattle.dictionary.proofs.Unticked.{words_stay, length_stays}
use Rattle.roles.specs.Chains.{upper_of}
use Rattle.roles.specs.Values.{range_of}
use Rattle.entries.specs.Judge.{held, past_upper, in_range}
use Rattle.entries.specs.Valid.{Valid}
use Rattle.entries.proofs.Neighbours.{upper_another, is_another, another, upper_same}

-- ---- a configuration that agrees with a valid one is valid

pub agrees : (unit other : List ℕ) → ((k : ℕ) → k < configured → get_or unit k 0 ≡ get_or other k 0) → Valid other → Valid unit
unfolding held
agrees unit other same v =
    record {
      sized = λ slot h. subst (λ (w : ℕ). w < 256 ^ width (range_of slot).kind) (sym (same slot h)) (v.sized slot h);
      ranged = λ slot h. ap (in_range (range_of slot)) (same slot h) ∙ v.ranged slot h;
      linked = λ slot h.
          ap (λ (w : ℕ). past_upper unit (upper_of slot) (signed16 w)) (same slot h)
          ∙ upper_same unit other (another slot) (λ u e. same u (is_another slot u e).0) (upper_of slot) (upper_another slot h) (signed16 (get_or other slot 0))
          ∙ v.linked slot h;
    }

-- ---- the tick forgotten

pub front_forgotten : (unit : List ℕ) (k : ℕ) → k < configured → get_or (unticked unit) k 0 ≡ get_or unit k 0
front_forgotten unit k h = words_stay unit k (omega (arith, counted))

pub valid_forgotten : (unit : List ℕ) → Valid unit → Valid (unticked unit)
valid_forgotten unit v = agrees (unticked unit) unit (front_forgotten unit) v

-- a word stored, and the tick forgotten with it
pub size_stored : (unit : List ℕ) (slot word : ℕ) → length (unticked (set unit slot word)) ≡ length unit
size_stored unit slot word = length_stays (set unit slot word) ∙ length-set unit slot word
