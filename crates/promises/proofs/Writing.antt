-- What an accepted write leaves: its own slot's word is good, and all others are as they were.
-- Assumes nothing.
use mathlib.Core.Path.{◌≡◌, refl, sym, ap, ◌∙◌, subst}
use mathlib.Core.Bool.{Bool, true, false, not}
use mathlib.Core.List.{List}
use Prim.Native.Nat.{ℕ, ◌^◌, ◌<◌}
use native.Mathlib.Omega.{arith}
use lib.Dec.{eqb}
use lib.IntN.{ℤ}
use lib.ListN.{length, get_or, set, drop}
use lib.Seq.{get_or-set_same, get_or-set_other}
use borrow.Author.Tests.{eqb-true, eqb-false, not-true, not-false}
use Rattle.numbers.specs.Order.{below}
use Rattle.numbers.specs.Signed.{signed16}
use Rattle.dictionary.specs.Names.{configured}
use Rattle.dictionary.specs.Rows.{width}
use Rattle.dictionary.specs.Unit.{unit_size}
use Rattle.roles.specs.Chains.{upper_of, lower_of}
use Rattle.entries.specs.Judge.{in_range, held, past_upper, past_lower}
use Rattle.entries.specs.Valid.{Valid}
use Rattle.roles.specs.Values.{range_of}
use Rattle.roles.specs.declared.types.Link.{Link}
use Rattle.roles.specs.declared.types.Link.TheVariants.{Free, Loose, Strict}
use Rattle.std.specs.Prelude.{Ok}
use Rattle.entries.proofs.Configuration.{in_unit}
use Rattle.entries.proofs.Neighbours.{near, another, is_another, upper_another, back_down, turned, both_ways, upper_same}
use Rattle.sdo.specs.Answers.{size_of}
use Rattle.sdo.specs.Frames.{data_in}
use Rattle.octets.specs.Little.{Bytes}
use Rattle.promises.proofs.Accepted.{Accepted}
use Rattle.octets.proofs.little.ByteLaws.{bytes_from, little_below}
use Rattle.promises.proofs.Judged.{fitting}

module _ (words frame : List ℕ) (slot word : ℕ) (a : Accepted words frame slot word) where
  -- a word has no more bytes than its type
  pub of_own_size : Bytes frame → word < 256 ^ width (range_of slot).kind
  unfolding size_of data_in
  of_own_size b =
      subst (λ (w : ℕ). w < 256 ^ size_of slot) (sym a.holds) (little_below (size_of slot) (drop 4 frame) (bytes_from 4 frame b))

  module _ (l : length words ≡ unit_size) where
    pub there : get_or (set words slot word) slot 0 ≡ word
    there = get_or-set_same words slot word 0 (omega (arith, in_unit slot a.below))

    elsewhere : (k : ℕ) → (k ≡ slot → ⊥) → get_or (set words slot word) k 0 ≡ get_or words k 0
    elsewhere k n = get_or-set_other words slot k word 0 n

    -- the written slot is not past its upper neighbour
    own_link : slot < configured → past_upper (set words slot word) (upper_of slot) (held (set words slot word) slot) ≡ false
    unfolding held
    own_link h =
        upper_same (set words slot word) words (another slot) (λ u e. elsewhere u (is_another slot u e).1) (upper_of slot) (upper_another slot h) (held (set words slot word) slot)
        ∙ ap (λ (w : ℕ). past_upper words (upper_of slot) (signed16 w)) there
        ∙ (fitting words slot word a.good).upward

    new_number : (u : ℕ) → u ≡ slot → held (set words slot word) u ≡ signed16 word
    unfolding held
    new_number u q = ap (held (set words slot word)) q ∙ ap signed16 there

    not_past_lower : (link : Link) → lower_of slot ≡ link → past_lower words link (signed16 word) ≡ false
    not_past_lower link e = ap (λ (x : Link). past_lower words x (signed16 word)) (sym e) ∙ (fitting words slot word a.good).downward

    -- nor is a slot whose upper neighbour it is
    link_below : (k : ℕ) (link : Link) → back_down link ≡ turned k link → near (λ u. not (eqb u slot)) link ≡ false → past_upper (set words slot word) link (held words k) ≡ false
    unfolding back_down turned near past_upper past_lower
    link_below k Free m e = refl
    link_below k (Loose u) m e =
        let q : u ≡ slot = eqb-true u slot (not-false (eqb u slot) e) in
        ap (λ (x : ℤ). below x (held words k)) (new_number u q) ∙ not_past_lower (Loose k) (ap lower_of (sym q) ∙ m)
    link_below k (Strict u) m e =
        let q : u ≡ slot = eqb-true u slot (not-false (eqb u slot) e) in
        ap (λ (x : ℤ). not (below (held words k) x)) (new_number u q) ∙ not_past_lower (Strict k) (ap lower_of (sym q) ∙ m)

    -- and all other links are as they were
    other_link : Valid words → (k : ℕ) → k < configured → (k ≡ slot → ⊥) → past_upper (set words slot word) (upper_of k) (held (set words slot word) k) ≡ false
    unfolding held
    other_link v k h n =
        ap (λ (w : ℕ). past_upper (set words slot word) (upper_of k) (signed16 w)) (elsewhere k n) ∙ go (near (λ u. not (eqb u slot)) (upper_of k)) refl
      where
        go : (t : Bool) → near (λ u. not (eqb u slot)) (upper_of k) ≡ t → past_upper (set words slot word) (upper_of k) (held words k) ≡ false
        go true e =
            upper_same (set words slot word) words (λ u. not (eqb u slot)) (λ u d. elsewhere u (eqb-false u slot (not-true (eqb u slot) d))) (upper_of k) e (held words k)
            ∙ v.linked k h
        go false e = link_below k (upper_of k) (both_ways k h) e

    -- what holds at the written slot and at every other one
    pub still_valid : Bytes frame → Valid words → Valid (set words slot word)
    still_valid b v =
        record {
          sized = at_all (λ k. get_or (set words slot word) k 0 < 256 ^ width (range_of k).kind) (λ h. rw there (of_own_size b)) (λ k h n. rw (elsewhere k n) (v.sized k h));
          ranged = at_all (λ k. in_range (range_of k) (get_or (set words slot word) k 0) ≡ Ok tt) (λ h. rw there (fitting words slot word a.good).inside) (λ k h n. rw (elsewhere k n) (v.ranged k h));
          linked = at_all (λ k. past_upper (set words slot word) (upper_of k) (held (set words slot word) k) ≡ false) own_link (other_link v);
        }
      where
        at_all : (P : ℕ → Type 0) → (slot < configured → P slot) → ((k : ℕ) → k < configured → (k ≡ slot → ⊥) → P k) → (k : ℕ) → k < configured → P k
        at_all P own others k h = go (eqb k slot) refl
          where
            go : (t : Bool) → eqb k slot ≡ t → P k
            go true q = let s : k ≡ slot = eqb-true k slot q in subst P (sym s) (own (subst (λ (i : ℕ). i < configured) s h))
            go false q = others k h (eqb-false k slot q)
