-- The trail, step by step.
-- Assumes nothing.
use Prim.Native.Nat.{ℕ, zero, suc, ◌+◌, ◌<◌, ◌≤◌}
use mathlib.Core.Bool.{Bool, true, false}
use mathlib.Core.List.{List, [], ◌∷◌}
use mathlib.Core.Path.{◌≡◌, refl, sym, ◌∙◌}
use native.Mathlib.Omega.{arith}
use borrow.Author.Tests.{ltb-true, ltb-false}
use lib.Dec.{ltb}
use lib.ListN.{length}
use Rattle.numbers.specs.Choice.{first}
use Rattle.signals.specs.declared.signal.Signal.TheVariants.{Error}
use Rattle.unit.specs.Held.{blocks, at_row}
use Rattle.why.specs.Explains.{at_sight, Led, earlier, began, read}
use Rattle.why.specs.Seen.{block_of, saw}
use Rattle.why.specs.Trail.{Trail, next, stepped, follow}
use Rattle.why.specs.Trail as trail
use Rattle.why.specs.declared.types.End.{End}
use Rattle.why.specs.declared.types.End.TheVariants.{Earlier}
use Rattle.why.specs.declared.types.Next.{Next}
use Rattle.why.specs.declared.types.Next.TheVariants.{Ends, Reads}
use Rattle.unit.specs.declared.pairs.Pair.{Pair}
use Rattle.why.proofs.Causes.{Cause, ends, reads}
use Rattle.why.proofs.Sights.{names_block, holds_it}

-- no more steps than rows, and the last
pub few : {before after : List ℕ} {r : ℕ} {ps : List Pair} {e : End} → Led before after r ps e → length ps ≤ r + 1
few (earlier r p h l x s) = omega arith
few (began r p e l s b) = omega arith
few (read r p q ps e l s x more) = let m = few more in omega arith

module _ (before after : List ℕ) (sight : (r : ℕ) (p : Pair) → saw after r p ≡ at_sight before after r p)
    (earlier-is : (r : ℕ) (p : Pair) → saw after r p ≡ Error → r ≤ block_of p → at_row before (block_of p) ≡ Error) where
  module _ (cause : (row : ℕ) → row < blocks → at_row after row ≡ Error → Cause before after row (next after row)) where
    pub led : (fuel : ℕ) (r : ℕ) (p : Pair) → block_of p < fuel → block_of p < r → saw after r p ≡ Error → Led before after r (p ∷ (follow fuel after (block_of p)).steps) (follow fuel after (block_of p)).end
    unfolding follow stepped first trail.after
    led zero r p f l s = absurd (omega arith)
    led (suc left) r p f l s = by (next after (block_of p)) (cause (block_of p) (names_block after r p s) (holds_it after r p s l)) (led left)
      where
        by : (n : Next) → Cause before after (block_of p) n
            → ((r : ℕ) (q : Pair) → block_of q < left → block_of q < r → saw after r q ≡ Error → Led before after r (q ∷ (follow left after (block_of q)).steps) (follow left after (block_of q)).end)
            → Led before after r (p ∷ (stepped (follow left after) (block_of p) n).steps) (stepped (follow left after) (block_of p) n).end
        by (Ends e) (ends b) more = began r p e l (sym (sight r p) ∙ s) b
        by (Reads q) (reads x w) more = on (ltb (block_of q) (block_of p)) refl
          where
            on : (t : Bool) → ltb (block_of q) (block_of p) ≡ t → let go = first t (trail.after q (follow left after (block_of q))) (record { steps = q ∷ []; end = Earlier }) in Led before after r (p ∷ go.steps) go.end
            on true g = let low = ltb-true (block_of q) (block_of p) g in read r p q _ _ l (sym (sight r p) ∙ s) x (more (block_of p) q (omega arith) low w)
            on false g = let high = ltb-false (block_of q) (block_of p) g in
                read r p q _ _ l (sym (sight r p) ∙ s) x (earlier (block_of p) q high (names_block after (block_of p) q w) (earlier-is (block_of p) q w high) (sym (sight (block_of p) q) ∙ w))
