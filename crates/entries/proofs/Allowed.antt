-- What leaves a configuration that may stand is allowed: the value is in its range and in order with both its neighbours.
-- Assumes nothing.
use mathlib.Core.Path.{◌≡◌, refl, sym, ap, ◌∙◌}
use mathlib.Core.Bool.{true, false, not}
use mathlib.Core.List.{List}
use Prim.Native.Nat.{ℕ, ◌<◌}
use lib.ListN.{length, get_or, set}
use lib.Seq.{get_or-set_same, get_or-set_other}
use Rattle.std.specs.Prelude.{Ok}
use Rattle.numbers.specs.Choice.{first}
use Rattle.numbers.specs.Order.{below}
use Rattle.numbers.specs.Signed.{signed16}
use Rattle.dictionary.specs.Names.{configured}
use Rattle.dictionary.proofs.Tabulate.{tabulate}
use Rattle.roles.specs.Chains.{chains, upper_in, lower_in, upper_of, lower_of}
use Rattle.roles.specs.Values.{range_of}
use Rattle.entries.specs.Judge.{in_range, held, past_upper, past_lower, in_order, judged}
use Rattle.entries.specs.Valid.{Valid}
use Rattle.roles.specs.declared.types.Link.{Link}
use Rattle.roles.specs.declared.types.Link.TheVariants.{Free, Loose, Strict}
use Rattle.entries.proofs.Configuration.{at_each}
use Rattle.entries.proofs.Neighbours.{near, another, is_another, upper_another, lower_another, turned, upper_same}

-- the link of the neighbour below back up
unfoldable pub back_up : Link → Link
back_up Free = Free
back_up (Loose u) = upper_of u
back_up (Strict u) = upper_of u

backs_computed : tabulate configured 0 (λ slot. back_up (lower_of slot)) ≡ tabulate configured 0 (λ slot. turned slot (lower_of slot))
unfolding tabulate configured back_up turned chains upper_of upper_in lower_of lower_in first
backs_computed = refl

pub down_and_up : (slot : ℕ) → slot < configured → back_up (lower_of slot) ≡ turned slot (lower_of slot)
down_and_up = at_each (λ slot. back_up (lower_of slot)) (λ slot. turned slot (lower_of slot)) backs_computed

module _ (words : List ℕ) (slot word : ℕ) (h : slot < configured) (l : slot < length words) (v : Valid (set words slot word)) where
  there : get_or (set words slot word) slot 0 ≡ word
  there = get_or-set_same words slot word 0 l

  beside : (u : ℕ) → another slot u ≡ true → get_or (set words slot word) u 0 ≡ get_or words u 0
  beside u e = get_or-set_other words slot u word 0 (is_another slot u e).1

  inside : in_range (range_of slot) word ≡ Ok tt
  inside = rw there at (v.ranged slot h)

  upward : past_upper words (upper_of slot) (signed16 word) ≡ false
  unfolding held
  upward =
      sym (upper_same (set words slot word) words (another slot) beside (upper_of slot) (upper_another slot h) (signed16 word))
      ∙ ap (λ (w : ℕ). past_upper (set words slot word) (upper_of slot) (signed16 w)) (sym there) ∙ v.linked slot h

  -- the neighbour below is not past this slot
  from_below : (u : ℕ) (link : Link) → another slot u ≡ true → upper_of u ≡ link → past_upper (set words slot word) link (held words u) ≡ false
  unfolding held
  from_below u link e q =
      ap (λ (w : ℕ). past_upper (set words slot word) link (signed16 w)) (sym (beside u e))
      ∙ ap (λ (x : Link). past_upper (set words slot word) x (held (set words slot word) u)) (sym q) ∙ v.linked u (is_another slot u e).0

  downward : (link : Link) → near (another slot) link ≡ true → back_up link ≡ turned slot link → past_lower words link (signed16 word) ≡ false
  unfolding near back_up turned past_upper past_lower held
  downward Free e q = refl
  downward (Loose u) e q = ap (λ (w : ℕ). below (signed16 w) (held words u)) (sym there) ∙ from_below u (Loose slot) e q
  downward (Strict u) e q = ap (λ (w : ℕ). not (below (held words u) (signed16 w))) (sym there) ∙ from_below u (Strict slot) e q

  pub allowed : judged words slot word ≡ Ok tt
  unfolding judged in_order first
  allowed = rw (inside, upward, downward (lower_of slot) (lower_another slot h) (down_and_up slot h))
