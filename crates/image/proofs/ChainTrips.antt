-- Chains told two ways: every link in order, or no entry past its upper neighbour.
-- Assumes nothing.
use mathlib.Core.Path.{◌≡◌, refl, sym, ap, subst, ◌∙◌}
use mathlib.Core.Bool.{Bool, true, false, not, and-eq-true_iff}
use mathlib.Core.List.{List, [], ◌∷◌, map}
use Prim.Native.Nat.{ℕ, ◌<◌}
use lib.Dec.{eqb, ltb}
use lib.ListN.{take}
use lib.Seq.{get_or-take}
use borrow.Author.Tests.{eqb-true, ltb-true, not-true}
use Rattle.numbers.specs.Choice.{first, every}
use Rattle.numbers.specs.Order.{below}
use Rattle.numbers.specs.Signed.{signed16}
use Rattle.dictionary.specs.Names.{configured}
use Rattle.roles.specs.Chains.{Neighbours, chains, linked, upper_in, upper_of}
use Rattle.roles.specs.declared.types.Link.{Link}
use Rattle.roles.proofs.RoleLaws.{run, runs, chains_run}
use Rattle.entries.specs.Judge.{held, past_upper}
use Rattle.image.specs.Reading.{in_place, in_order}
use Rattle.image.proofs.reading.PlaceLaws.{sound, two_bytes, runs_sound}

-- ---- one link

module _ (words : List ℕ) (n : Neighbours) where
  pub placed_linked : in_place words n ≡ true → past_upper words (linked n.strict n.upper) (held words n.lower) ≡ false
  unfolding in_place past_upper first
  placed_linked e = go n.strict e
    where
      go : (s : Bool) → first s (below (held words n.lower) (held words n.upper)) (not (below (held words n.upper) (held words n.lower))) ≡ true
          → past_upper words (linked s n.upper) (held words n.lower) ≡ false
      go true e = ap not e
      go false e = not-true (below (held words n.upper) (held words n.lower)) e

  pub linked_placed : past_upper words (linked n.strict n.upper) (held words n.lower) ≡ false → in_place words n ≡ true
  unfolding in_place past_upper first
  linked_placed e = go n.strict e
    where
      back : (b : Bool) → not b ≡ false → b ≡ true
      back true e = refl
      back false e = sym e

      go : (s : Bool) → past_upper words (linked s n.upper) (held words n.lower) ≡ false
          → first s (below (held words n.lower) (held words n.upper)) (not (below (held words n.upper) (held words n.lower))) ≡ true
      go true e = back (below (held words n.lower) (held words n.upper)) e
      go false e = ap not e

-- ---- all links, seen from a slot

linked_from : (words : List ℕ) (ns : List Neighbours) → every (in_place words) ns ≡ true → (slot : ℕ) → past_upper words (upper_in ns slot) (held words slot) ≡ false
unfolding every upper_in first past_upper
linked_from words [] e slot = refl
linked_from words (n ∷ ns) e slot =
    let both = (and-eq-true_iff (in_place words n) (every (in_place words) ns)).0 e in
    go (eqb n.lower slot) refl (placed_linked words n both.0) (linked_from words ns both.1 slot)
  where
    go : (b : Bool) → eqb n.lower slot ≡ b → past_upper words (linked n.strict n.upper) (held words n.lower) ≡ false
        → past_upper words (upper_in ns slot) (held words slot) ≡ false
        → past_upper words (first b (linked n.strict n.upper) (upper_in ns slot)) (held words slot) ≡ false
    go true q here rest = subst (λ (s : ℕ). past_upper words (linked n.strict n.upper) (held words s) ≡ false) (eqb-true n.lower slot q) here
    go false q here rest = rest

pub order_linked : (words : List ℕ) → in_order words ≡ true → (slot : ℕ) → past_upper words (upper_of slot) (held words slot) ≡ false
unfolding in_order upper_of
order_linked words e slot = linked_from words chains e slot

-- ---- each link is its lower entry's only one, by computing

own_links : map (λ (n : Neighbours). upper_in runs n.lower) runs ≡ map (λ (n : Neighbours). linked n.strict n.upper) runs
unfolding upper_in first runs run
own_links = refl

firsts : {A : Type 0} {x y : A} {xs ys : List A} → x ∷ xs ≡ y ∷ ys → (x ≡ y) × (xs ≡ ys)
firsts e = (cc, cc)

all_placed : (words : List ℕ) (ns : List Neighbours)
    → map (λ (n : Neighbours). upper_in runs n.lower) ns ≡ map (λ (n : Neighbours). linked n.strict n.upper) ns → every sound ns ≡ true
    → ((slot : ℕ) → slot < configured → past_upper words (upper_of slot) (held words slot) ≡ false) → every (in_place words) ns ≡ true
unfolding every sound two_bytes upper_of configured
all_placed words [] e s h = refl
all_placed words (n ∷ ns) e s h =
    let both = (and-eq-true_iff (sound n) (every sound ns)).0 s in
    let ends = (and-eq-true_iff (two_bytes n.lower) (two_bytes n.upper)).0 both.0 in
    let small = ltb-true n.lower 611 ((and-eq-true_iff (ltb n.lower 611) _).0 ends.0).0 in
    let own = firsts e in
    let up : upper_of n.lower ≡ linked n.strict n.upper = ap (λ (l : List Neighbours). upper_in l n.lower) chains_run ∙ own.0 in
    rw (linked_placed words n (ap (λ (l : Link). past_upper words l (held words n.lower)) (sym up) ∙ h n.lower small), all_placed words ns own.1 both.1 h)

pub linked_order : (words : List ℕ) → ((slot : ℕ) → slot < configured → past_upper words (upper_of slot) (held words slot) ≡ false) → in_order words ≡ true
unfolding in_order
linked_order words h = ap (every (in_place words)) chains_run ∙ all_placed words runs own_links runs_sound h

-- ---- words past the configuration do not matter

held_front : (words : List ℕ) (slot : ℕ) → two_bytes slot ≡ true → held (take 611 words) slot ≡ held words slot
unfolding held two_bytes
held_front words slot t =
    let small = ltb-true slot 611 ((and-eq-true_iff (ltb slot 611) _).0 t).0 in
    ap signed16 (get_or-take 611 words slot 0 small)

same_places : (words : List ℕ) (ns : List Neighbours) → every sound ns ≡ true → every (in_place (take 611 words)) ns ≡ every (in_place words) ns
unfolding every sound in_place
same_places words [] s = refl
same_places words (n ∷ ns) s =
    let both = (and-eq-true_iff (sound n) (every sound ns)).0 s in
    let ends = (and-eq-true_iff (two_bytes n.lower) (two_bytes n.upper)).0 both.0 in
    rw (held_front words n.lower ends.0, held_front words n.upper ends.1, same_places words ns both.1)

pub front_order : (words : List ℕ) → in_order (take 611 words) ≡ in_order words
unfolding in_order
front_order words =
    ap (every (in_place (take 611 words))) chains_run ∙ same_places words runs runs_sound ∙ ap (every (in_place words)) (sym chains_run)
