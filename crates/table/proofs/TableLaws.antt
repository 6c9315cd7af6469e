-- Laws of the table: the walk over the points finds m and the least i.
-- Assumes nothing.
use Prim.Native.Nat.{ℕ, zero, suc, ◌+◌, ◌-◌, ◌<◌, ◌≤◌, ◌^◌}
use mathlib.Core.Bool.{Bool, true, false, not}
use mathlib.Core.List.{List, [], ◌∷◌}
use mathlib.Core.Path.{◌≡◌, refl, sym, ap, ◌∙◌}
use native.Mathlib.Decide.{ℕ_discrete}
use native.Mathlib.Nat.{add-zero}
use native.Mathlib.Numerals.{add-one}
use native.Mathlib.Omega.{arith}
use borrow.Author.Tests.{eq-eqb, ne_eqb, not-true, not-false}
use lib.Dec.{eqb}
use lib.IntN.{ℤ, pos, negsuc}
use lib.Signed.{mag, le_z, ◌≤ℤ◌, ≤ℤ_refl}
use mir.Syntax.{w16}
use mir.Val.{to_z, of_z}
use Rattle.numbers.specs.Choice.{first}
use Rattle.numbers.specs.Line.{nearest_size, nearest, between, line_at}
use Rattle.numbers.specs.Signed.{signed16, twos}
use Rattle.numbers.specs.Order.{below}
use Rattle.numbers.proofs.Orders.{lt_is_below, not_below_is_le, le_is_not_below}
use Rattle.numbers.proofs.Tests.{le_below}
use Rattle.numbers.proofs.ExactLaws.{back}
use Rattle.numbers.proofs.OrderLaws.{≤ℤ_trans}
use Rattle.table.specs.Curves.{NotFalling}
use Rattle.table.specs.Sentence.{Sentence}
use Rattle.table.specs.Table.{least, value, unused, used, reaches, place, interval, curve}

-- ---- the least number at which a test holds
module _ (test : ℕ → Bool) where
  pub least_hit : (k n : ℕ) → 0 < n → test k ≡ true → least test k n ≡ k
  unfolding least first
  least_hit k zero h e = absurd (omega arith)
  least_hit k (suc n) h e = rw e

  pub least_miss : (k n : ℕ) → 0 < n → test k ≡ false → least test k n ≡ least test (k + 1) (n - 1)
  unfolding least first
  least_miss k zero h e = absurd (omega arith)
  least_miss k (suc n) h e =
      let one : suc n - 1 ≡ n = omega arith in
      rw (e, add-one k, one)

  pub least_none : (k n : ℕ) → n ≡ 0 → least test k n ≡ k
  unfolding least
  least_none k n e = rw e

  pub least_from : (k n : ℕ) → k ≤ least test k n
  unfolding least first
  least_from k zero = omega arith
  least_from k (suc n) = by (test k) (least_from (suc k) n) where
    by : (t : Bool) → suc k ≤ least test (suc k) n → k ≤ first t k (least test (suc k) n)
    by true h = omega arith
    by false h = omega arith

  -- it is found within the n numbers, the test holds at it, and at none before it
  pub least_to : (k n : ℕ) → least test k n ≤ k + n
  unfolding least first
  least_to k zero = omega arith
  least_to k (suc n) = by (test k) (least_to (suc k) n) where
    by : (t : Bool) → least test (suc k) n ≤ suc k + n → first t k (least test (suc k) n) ≤ k + suc n
    by true h = omega arith
    by false h = omega arith

  pub least_holds : (k n : ℕ) → least test k n < k + n → test (least test k n) ≡ true
  unfolding least first
  least_holds k zero h = absurd (omega arith)
  least_holds k (suc n) h = by (test k) refl (least_holds (suc k) n) h where
    by : (t : Bool) → test k ≡ t → (least test (suc k) n < suc k + n → test (least test (suc k) n) ≡ true) →
        first t k (least test (suc k) n) < k + suc n → test (first t k (least test (suc k) n)) ≡ true
    by true e g h = e
    by false e g h = g (omega arith)

  pub least_before : (k n i : ℕ) → k ≤ i → i < least test k n → test i ≡ false
  unfolding least first
  least_before k zero i p h = absurd (omega arith)
  least_before k (suc n) i p h = by (test k) refl (least_before (suc k) n i) h where
    by : (t : Bool) → test k ≡ t → (suc k ≤ i → i < least test (suc k) n → test i ≡ false) → i < first t k (least test (suc k) n) → test i ≡ false
    by true e g h = absurd (omega arith)
    by false e g h = at (ℕ_discrete k i) where
      at : Dec (k ≡ i) → test i ≡ false
      at (yes q) = ap test (sym q) ∙ e
      at (no q) = g (omega (arith, q)) h

-- ---- the walk: at point k, none before it ended the table and none was reached
module _ (response x : List ℕ) (v : ℤ) where
  pub record Walked (k : ℕ) : Type 0 where
    pub from : 1 ≤ k
    pub to : k ≤ 11
    pub past : reaches x v 0 ≡ false
    pub count : used response ≡ least (unused response) k (11 - k)
    pub least_i : place response x v ≡ least (reaches x v) k (used response - k)

  pub start : reaches x v 0 ≡ false → Walked 1
  unfolding used place
  start e = record { from = omega arith; to = omega arith; past = e; count = refl; least_i = refl }

  module _ {k : ℕ} (w : Walked k) where
    -- k is used, so that more than k points are
    more : k < 11 → unused response k ≡ false → k < used response
    more h e =
        let m = w.count ∙ least_miss (unused response) k (11 - k) (omega arith) e in
        omega (arith, m, least_from (unused response) (k + 1) (11 - k - 1))

    pub on : k < 11 → unused response k ≡ false → reaches x v k ≡ false → Walked (k + 1)
    on h e g =
        let fewer : 11 - k - 1 ≡ 11 - (k + 1) = omega arith in
        let next : used response - k - 1 ≡ used response - (k + 1) = omega arith in
        record {
          from = omega (arith, w.from);
          to = omega arith;
          past = w.past;
          count = w.count ∙ least_miss (unused response) k (11 - k) (omega arith) e ∙ ap (least (unused response) (k + 1)) fewer;
          least_i = w.least_i ∙ least_miss (reaches x v) k (used response - k) (omega (arith, more h e)) g ∙ ap (least (reaches x v) (k + 1)) next;
        }

    module _ (y : List ℕ) where
      ended : used response ≡ k → curve response x y v ≡ value y (k - 1)
      unfolding curve first
      ended m =
          let none : used response - k ≡ 0 = omega (arith, m) in
          let i = w.least_i ∙ least_none (reaches x v) k (used response - k) none in
          rw (w.past, i, m, eq-eqb k k refl)

      -- the first response 0 ends the table: past Xm it is Ym
      pub at_unused : k < 11 → unused response k ≡ true → curve response x y v ≡ value y (k - 1)
      at_unused h e = ended (w.count ∙ least_hit (unused response) k (11 - k) (omega arith) e)

      -- so does its end
      pub at_end : 11 ≤ k → curve response x y v ≡ value y (k - 1)
      at_end h = ended (w.count ∙ least_none (unused response) k (11 - k) (omega arith))

      -- the first used point that v does not pass
      pub at_reached : k < 11 → unused response k ≡ false → reaches x v k ≡ true → curve response x y v ≡ interval response x y v k
      unfolding curve first
      at_reached h e g =
          let i = w.least_i ∙ least_hit (reaches x v) k (used response - k) (omega (arith, more h e)) g in
          rw (w.past, i, ne_eqb k (used response) (λ (p : k ≡ used response). omega (arith, more h e)))

-- ---- a branch of the code that asks whether v is at most a point's X
pub reached : (x : List ℕ) (v : ℤ) (k : ℕ) {r : ℤ} {t : Bool} → mag r < 2 ^ 15 → r ≡ value x k → le_z v (to_z w16 (of_z w16 r)) ≡ t → reaches x v k ≡ t
unfolding reaches
reached x v k {t = t} h e g = ap not (le_below v (value x k) t (rw (back h e) at g)) ∙ twice t where
  twice : (t : Bool) → not (not t) ≡ t
  twice true = refl
  twice false = refl

-- "x <= X1 gives Y1"
pub at_first : (response x y : List ℕ) (v : ℤ) → reaches x v 0 ≡ true → curve response x y v ≡ value y 0
unfolding curve first
at_first response x y v e = rw e

-- the first point is always used, and no more than eleven are
pub some_used : (response : List ℕ) → 1 ≤ used response
unfolding used
some_used response = least_from (unused response) 1 10

pub used_most : (response : List ℕ) → used response ≤ 11
unfolding used
used_most response = least_to (unused response) 1 10

-- ---- where the X do not fall, no used point is reached exactly where x > Xm, and the curve is the paper's sentence
pub up_to : (x : List ℕ) (m j n : ℕ) → NotFalling x m → j + n < m → value x j ≤ℤ value x (j + n)
up_to x m j zero r h = rw (add-zero j) (≤ℤ_refl (value x j))
up_to x m j (suc n) r h =
    let next : j + n + 1 ≡ j + suc n = omega arith in
    ≤ℤ_trans (up_to x m j n r (omega arith)) (rw next at (r (j + n) (omega arith)))

module _ (response x : List ℕ) (v : ℤ) (rise : NotFalling x (used response)) (past : reaches x v 0 ≡ false) where
  m : ℕ
  m = used response

  some : 1 ≤ m
  unfolding m
  some = some_used response

  passes : (k : ℕ) → reaches x v k ≡ false → below (value x k) v ≡ true
  unfolding reaches
  passes k e = not-false (below (value x k) v) e

  reaching : (k : ℕ) → reaches x v k ≡ true → below (value x k) v ≡ false
  unfolding reaches
  reaching k e = not-true (below (value x k) v) e

  -- a used point is reached, so Xm is not below v
  found : place response x v < m → below (value x (m - 1)) v ≡ false
  unfolding m place
  found h =
      let i = least (reaches x v) 1 (used response - 1) in
      let at = least_holds (reaches x v) 1 (used response - 1) (omega (arith, some)) in
      let rest : i + (used response - 1 - i) ≡ used response - 1 = omega arith in
      let le = up_to x (used response) i (used response - 1 - i) rise (omega arith) in
      le_is_not_below (≤ℤ_trans (not_below_is_le (value x i) v (reaching i at)) (rw rest at le))

  -- no used point is reached, so Xm is below v
  missed : place response x v ≡ m → below (value x (m - 1)) v ≡ true
  unfolding m place
  missed e = by (ℕ_discrete (used response) 1) where
    by : Dec (used response ≡ 1) → below (value x (used response - 1)) v ≡ true
    by (yes q) = passes (used response - 1) (ap (λ (n : ℕ). reaches x v (n - 1)) q ∙ past)
    by (no q) = passes (used response - 1) (least_before (reaches x v) 1 (used response - 1) (used response - 1) (omega (arith, some, q)) (omega (arith, some, e)))

  no_farther : place response x v ≤ m
  unfolding m place
  no_farther = omega (arith, some, least_to (reaches x v) 1 (used response - 1))

  pub past_last : eqb (place response x v) (used response) ≡ below (value x (used response - 1)) v
  unfolding m
  past_last = by (ℕ_discrete (place response x v) (used response)) where
    by : Dec (place response x v ≡ used response) → eqb (place response x v) (used response) ≡ below (value x (used response - 1)) v
    by (yes q) = eq-eqb _ _ q ∙ sym (missed q)
    by (no q) = ne_eqb _ _ q ∙ sym (found (omega (arith, no_farther, q)))

pub sentence : (response x y : List ℕ) (v : ℤ) → NotFalling x (used response) → Sentence response x y v
unfolding curve reaches first
sentence response x y v rise =
    record {
      to_first = λ h. rw (le_is_not_below h);
      past_last = λ h.
          let beyond = lt_is_below h in
          let past = past_first beyond in
          rw (past, past_last response x v rise (ap not past), beyond);
      between = λ h l. let past = lt_is_below h in rw (past, past_last response x v rise (ap not past), le_is_not_below l);
    }
  where
    -- the first X is not above the last
    rises : value x 0 ≤ℤ value x (used response - 1)
    rises = let from : 0 + (used response - 1) ≡ used response - 1 = omega arith in rw from at (up_to x (used response) 0 (used response - 1) rise (omega (arith, some_used response)))

    past_first : below (value x (used response - 1)) v ≡ true → below (value x 0) v ≡ true
    past_first e = by (below (value x 0) v) refl where
      by : (t : Bool) → below (value x 0) v ≡ t → t ≡ true
      by true f = refl
      by false f = sym (le_is_not_below (≤ℤ_trans (not_below_is_le (value x 0) v f) rises)) ∙ e

-- ---- "Points (0,-1), (2,0), x = 1: -1", with a jump to (4, 10) and a fourth point that response 0 leaves unused
unfoldable pub example : ℤ → ℤ
example = curve (0 ∷ 1 ∷ 2 ∷ 0 ∷ []) (0 ∷ 2 ∷ 4 ∷ 6 ∷ []) (65535 ∷ 0 ∷ 10 ∷ 99 ∷ [])

pub examples : example (pos 0) ∷ example (pos 1) ∷ example (pos 2) ∷ example (pos 3) ∷ example (pos 5) ∷ [] ≡
    negsuc 0 ∷ negsuc 0 ∷ pos 0 ∷ pos 10 ∷ pos 10 ∷ []
unfolding example curve interval place reaches used unused value least signed16 twos line_at between nearest nearest_size below first
examples = refl
