-- The steps of a trail laid down one after the other.
-- Assumes nothing.
use Prim.Native.Nat.{ℕ, suc, ◌+◌, ◌-◌, ◌*◌, ◌<◌, ◌≤◌}
use mathlib.Core.List.{List, [], ◌∷◌}
use mathlib.Core.Path.{◌≡◌, refl, sym, ap, ◌∙◌}
use native.Mathlib.Omega.{arith}
use borrow.Author.Tests.{lt-ltb, le-ltb}
use lib.ListN.{length}
use lib.Seq.{sets, length-sets}
use Rattle.numbers.specs.Choice.{first}
use Rattle.why.specs.Answer.{pairs, Followed}
use Rattle.why.specs.Seen.{block_of}
use Rattle.why.specs.Trail.{Trail, next, after, stepped, follow, trail}
use Rattle.why.specs.declared.types.End.{End}
use Rattle.why.specs.declared.types.End.TheVariants.{Earlier}
use Rattle.why.specs.declared.types.Next.{Next}
use Rattle.why.specs.declared.types.Next.TheVariants.{Ends, Reads}
use Rattle.unit.specs.declared.pairs.Pair.{Pair}
use Rattle.why.specs.declared.types.Walked.{Walked}

-- what is left after i steps comes to the whole
pub record Left (unit : List ℕ) (row₀ row i : ℕ) (trail₀ trail : List ℕ) : Type 0 where
  pub few : i ≤ 16
  pub low : row < 16
  pub bytes : sets trail (10 + 2 * i) (pairs (follow (16 - i) unit row).steps) ≡ sets trail₀ 10 (pairs (follow 16 unit row₀).steps)
  pub count : i + length (follow (16 - i) unit row).steps ≡ length (follow 16 unit row₀).steps
  pub end : (follow (16 - i) unit row).end ≡ (follow 16 unit row₀).end
  pub long : length trail ≡ length trail₀

-- all of it
pub record Walk (unit : List ℕ) (row₀ : ℕ) (trail₀ trail' : List ℕ) (count : ℕ) (end : End) : Type 0 where
  pub bytes : trail' ≡ sets trail₀ 10 (pairs (follow 16 unit row₀).steps)
  pub counted : count ≡ length (follow 16 unit row₀).steps
  pub ended : end ≡ (follow 16 unit row₀).end

pub begun : (unit : List ℕ) (row : ℕ) (trail : List ℕ) → row < 16 → Left unit row row 0 trail trail
begun unit row trail h = record { few = omega arith; low = h; bytes = refl; count = omega arith; end = refl; long = refl }

module _ (unit : List ℕ) (row₀ row i : ℕ) (trail₀ trail : List ℕ) (left : Left unit row₀ row i trail₀ trail) where
  -- the walk ends where nothing is left
  done : (t : Trail) → follow (16 - i) unit row ≡ t → t.steps ≡ [] → Walk unit row₀ trail₀ trail i t.end
  unfolding pairs
  done t is none =
      let no : (follow (16 - i) unit row).steps ≡ [] = ap (λ (s : Trail). s.steps) is ∙ none in
      record {
        bytes = ap (λ (ps : List Pair). sets trail (10 + 2 * i) (pairs ps)) (sym no) ∙ left.bytes;
        counted = omega (arith, ap length no, left.count);
        ended = ap (λ (s : Trail). s.end) (sym is) ∙ left.end;
      }

  pub out : 16 ≤ i → Walk unit row₀ trail₀ trail 16 Earlier
  unfolding follow
  out h =
      let f = left.few in
      let i-is : i ≡ 16 = omega arith in
      let none : 16 - i ≡ 0 = omega arith in
      rw (← i-is) (done (follow 0 unit row) (ap (λ (n : ℕ). follow n unit row) none) refl)

  module _ (more : i < 16) where
    turn : (n : Next) → next unit row ≡ n → follow (16 - i) unit row ≡ stepped (follow (16 - (i + 1)) unit) row n
    unfolding follow
    turn n e = let fuel : 16 - i ≡ suc (16 - (i + 1)) = omega arith in rw (fuel, e)

    pub ends : (e : End) → next unit row ≡ Ends e → Walk unit row₀ trail₀ trail i e
    unfolding stepped
    ends e is = (done (stepped (follow (16 - (i + 1)) unit) row (Ends e)) (turn (Ends e) is) refl)

    module _ (p : Pair) (is : next unit row ≡ Reads p) (trail' : List ℕ) (put : trail' ≡ sets trail (10 + 2 * i) (p.source ∷ p.number ∷ [])) where
      pub last : row ≤ block_of p → Walk unit row₀ trail₀ trail' (i + 1) Earlier
      unfolding stepped first pairs
      last h =
          let t : follow (16 - i) unit row ≡ record { steps = p ∷ []; end = Earlier } = turn (Reads p) is ∙ rw (le-ltb (block_of p) row h) in
          let no : (follow (16 - i) unit row).steps ≡ p ∷ [] = ap (λ (s : Trail). s.steps) t in
          record {
            bytes = put ∙ ap (λ (ps : List Pair). sets trail (10 + 2 * i) (pairs ps)) (sym no) ∙ left.bytes;
            counted = omega (arith, ap length no, left.count);
            ended = ap (λ (s : Trail). s.end) (sym t) ∙ left.end;
          }

      pub onward : block_of p < row → Left unit row₀ (block_of p) (i + 1) trail₀ trail'
      unfolding stepped first pairs after
      onward h =
          let l = left.low in
          let t : follow (16 - i) unit row ≡ after p (follow (16 - (i + 1)) unit (block_of p)) = turn (Reads p) is ∙ rw (lt-ltb (block_of p) row h) in
          let ps : (follow (16 - i) unit row).steps ≡ p ∷ (follow (16 - (i + 1)) unit (block_of p)).steps = ap (λ (s : Trail). s.steps) t in
          let place : 10 + 2 * (i + 1) ≡ suc (suc (10 + 2 * i)) = omega arith in
          record {
            few = omega arith;
            low = omega arith;
            bytes =
                ap (λ (n : ℕ). sets trail' n (pairs (follow (16 - (i + 1)) unit (block_of p)).steps)) place
                ∙ ap (λ (u : List ℕ). sets u (suc (suc (10 + 2 * i))) (pairs (follow (16 - (i + 1)) unit (block_of p)).steps)) put
                ∙ ap (λ (qs : List Pair). sets trail (10 + 2 * i) (pairs qs)) (sym ps)
                ∙ left.bytes;
            count = omega (arith, ap length ps, left.count);
            end = ap (λ (s : Trail). s.end) (sym t) ∙ left.end;
            long = ap length put ∙ length-sets trail (10 + 2 * i) (p.source ∷ p.number ∷ []) ∙ left.long;
          }

-- with the deciding pair in front
pub followed : (unit : List ℕ) (p : Pair) (row : ℕ) (before trail₀ trail' : List ℕ) (n : ℕ) (r : Walked) → row ≡ block_of p → trail₀ ≡ sets before 8 (p.source ∷ p.number ∷ [])
    → Walk unit row trail₀ trail' n r.end → r.count ≡ n + 1 → Followed unit p before trail' r
unfolding trail after pairs
followed unit p row before trail₀ trail' n r is put w c =
    let same : follow 16 unit row ≡ follow 16 unit (block_of p) = ap (follow 16 unit) is in
    record {
      bytes =
          w.bytes ∙ ap (λ (t : Trail). sets trail₀ 10 (pairs t.steps)) same
          ∙ ap (λ (l : List ℕ). sets l 10 (pairs (follow 16 unit (block_of p)).steps)) put;
      count = omega (arith, w.counted, c, ap (λ (t : Trail). length t.steps) same);
      end = w.ended ∙ ap (λ (t : Trail). t.end) same;
    }
