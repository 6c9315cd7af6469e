-- The promises of a table's curve.
-- Assumes nothing.
use Prim.Native.Nat.{ℕ, ◌+◌, ◌-◌, ◌<◌, ◌≤◌}
use mathlib.Core.Bool.{Bool, true, false, not, true≢false}
use mathlib.Core.List.{List}
use mathlib.Core.Path.{◌≡◌, refl, sym, ap, ◌∙◌}
use native.Mathlib.Decide.{ℕ_discrete}
use native.Mathlib.Omega.{arith}
use borrow.Author.Tests.{eq-eqb, ne_eqb, not-true, ltb-true, ltb-false}
use lib.Dec.{eqb, ltb}
use lib.IntN.{ℤ}
use lib.ListN.{get_or}
use lib.Signed.{◌≤ℤ◌, ≤ℤ_refl}
use Rattle.numbers.specs.Choice.{first}
use Rattle.numbers.specs.Line.{line_at}
use Rattle.numbers.specs.Order.{below}
use Rattle.numbers.proofs.Orders.{not_below_is_le, le_is_not_below}
use Rattle.numbers.proofs.OrderLaws.{below_le, ≤ℤ_trans}
use Rattle.numbers.proofs.whole_line.LineLaws.{from_first, to_second, from_second, to_first, rises}
use Rattle.table.specs.Table.{value, used, reaches, place, interval, curve}
use Rattle.table.specs.Curves.{NotFalling, NeverDips, begins_at, ends_at, Between, StaysBetween}
use Rattle.table.proofs.TableLaws.{least_from, least_to, least_holds, least_before, some_used, up_to}

-- ---- the three places of an x: up to X1, beyond the last used point, between two points

module _ (response x : List ℕ) (v : ℤ) where
  place_from : 1 ≤ place response x v
  unfolding place
  place_from = least_from (reaches x v) 1 (used response - 1)

  place_to : place response x v ≤ used response
  unfolding place
  place_to = omega (arith, some_used response, least_to (reaches x v) 1 (used response - 1))

  data Stands : Type 0 where
    first_point : reaches x v 0 ≡ true → Stands
    beyond : reaches x v 0 ≡ false → place response x v ≡ used response → Stands
    inside : reaches x v 0 ≡ false → (place response x v ≡ used response → ⊥) → Stands

  stands : Stands
  stands = by (reaches x v 0) refl (ℕ_discrete (place response x v) (used response))
    where
      by : (t : Bool) → reaches x v 0 ≡ t → Dec (place response x v ≡ used response) → Stands
      by true e d = first_point e
      by false e (yes p) = beyond e p
      by false e (no p) = inside e p

  -- what begins, ends and is put out there
  record Told (y : List ℕ) (b e : ℕ) (z : ℤ) : Type 0 where
    begins : begins_at response x v ≡ b
    ends : ends_at response x v ≡ e
    output : curve response x y v ≡ z

  module _ (y : List ℕ) where
    at_first_point : reaches x v 0 ≡ true → Told y 0 0 (value y 0)
    unfolding begins_at ends_at curve first
    at_first_point e = record { begins = rw e; ends = rw e; output = rw e }

    at_beyond : reaches x v 0 ≡ false → place response x v ≡ used response → Told y (used response - 1) (used response - 1) (value y (used response - 1))
    unfolding begins_at ends_at curve first
    at_beyond e p = let same = eq-eqb (used response) (used response) refl in record { begins = rw (e, p); ends = rw (e, p, same); output = rw (e, p, same) }

    at_inside : reaches x v 0 ≡ false → (place response x v ≡ used response → ⊥)
        → Told y (place response x v - 1) (place response x v) (interval response x y v (place response x v))
    unfolding begins_at ends_at curve first
    at_inside e p = let other = ne_eqb (place response x v) (used response) p in record { begins = rw e; ends = rw (e, other); output = rw (e, other) }

  -- the interval has its ends in order, and ends at a used point
  ordered : (begins_at response x v ≤ ends_at response x v) × (ends_at response x v < used response)
  ordered = by stands
    where
      by : Stands → (begins_at response x v ≤ ends_at response x v) × (ends_at response x v < used response)
      by (first_point e) = let t = at_first_point x e in (omega (arith, t.begins, t.ends), omega (arith, t.ends, some_used response))
      by (beyond e p) = let t = at_beyond x e p in (omega (arith, t.begins, t.ends), omega (arith, t.ends, some_used response))
      by (inside e p) = let t = at_inside x e p in (omega (arith, t.begins, t.ends), omega (arith, t.ends, place_to, p))

-- ---- between

flat : (a : ℤ) → Between a a a
flat a = Between.upward (≤ℤ_refl a) (≤ℤ_refl a)

-- a line or a jump from one point to the next
on_interval : (response x y : List ℕ) (v : ℤ) (k : ℕ) → Between (value y (k - 1)) (value y k) (interval response x y v k)
unfolding interval first
on_interval response x y v k = by (eqb (get_or response k 0) 1) (below (value y k) (value y (k - 1))) refl
  where
    a : ℤ
    a = value y (k - 1)

    b : ℤ
    b = value y k

    by : (t falls : Bool) → below b a ≡ falls → Between a b (first t (line_at (value x (k - 1)) a (value x k) b v) b)
    by true false e =
        let o = not_below_is_le b a e in Between.upward (from_first (value x (k - 1)) a (value x k) b o v) (to_second (value x (k - 1)) a (value x k) b o v)
    by true true e =
        let o = below_le b a e in Between.downward (from_second (value x (k - 1)) a (value x k) b o v) (to_first (value x (k - 1)) a (value x k) b o v)
    by false false e = Between.upward (not_below_is_le b a e) (≤ℤ_refl b)
    by false true e = Between.downward (≤ℤ_refl b) (below_le b a e)

pub stays_between : StaysBetween
stays_between response x y v = by (stands response x v)
  where
    by : Stands response x v → Between (value y (begins_at response x v)) (value y (ends_at response x v)) (curve response x y v)
    by (first_point e) = let t = at_first_point response x v y e in rw (t.begins, t.ends, t.output) (flat (value y 0))
    by (beyond e p) = let t = at_beyond response x v y e p in rw (t.begins, t.ends, t.output) (flat (value y (used response - 1)))
    by (inside e p) = let t = at_inside response x v y e p in rw (t.begins, t.ends, t.output) (on_interval response x y v (place response x v))

-- where the ends are in order, between is upward
raised : {a b z : ℤ} → a ≤ℤ b → Between a b z → (a ≤ℤ z) × (z ≤ℤ b)
raised o (Between.upward p q) = (p, q)
raised o (Between.downward p q) = (≤ℤ_trans o p, ≤ℤ_trans q o)

-- ---- never dips: two intervals follow each other, or they are one

module _ (response x y : List ℕ) (rise : NotFalling y (used response)) where
  later : (j k : ℕ) → j ≤ k → k < used response → value y j ≤ℤ value y k
  later j k l h = let sum : j + (k - j) ≡ k = omega arith in rw sum at (up_to y (used response) j (k - j) rise (omega arith))

  held : (v : ℤ) → (value y (begins_at response x v) ≤ℤ curve response x y v) × (curve response x y v ≤ℤ value y (ends_at response x v))
  held v = let o = ordered response x v in raised (later _ _ o.0 o.1) (stays_between response x y v)

  module _ (v w : ℤ) (q : v ≤ℤ w) where
    -- a point that w does not pass, v does not pass
    nearer : (k : ℕ) → reaches x w k ≡ true → reaches x v k ≡ true
    unfolding reaches
    nearer k e = ap not (le_is_not_below (≤ℤ_trans q (not_below_is_le (value x k) w (not-true (below (value x k) w) e))))

    place_later : place response x v ≤ place response x w
    unfolding place
    place_later = by (ltb (place response x w) (place response x v)) refl
      where
        by : (t : Bool) → ltb (place response x w) (place response x v) ≡ t → place response x v ≤ place response x w
        by false e = ltb-false (place response x w) (place response x v) e
        by true e =
            let l = ltb-true (place response x w) (place response x v) e in
            let n = used response - 1 in
            let holds = nearer (place response x w) (least_holds (reaches x w) 1 n (omega (arith, least_to (reaches x v) 1 n))) in
            let fails = least_before (reaches x v) 1 n (place response x w) (least_from (reaches x w) 1 n) l in
            absurd (true≢false (sym holds ∙ fails))

    -- where the one interval ends at or before the other begins
    follows : ends_at response x v ≤ begins_at response x w → curve response x y v ≤ℤ curve response x y w
    follows h =
        let o = ordered response x w in
        ≤ℤ_trans (held v).1 (≤ℤ_trans (later (ends_at response x v) (begins_at response x w) h (omega arith)) (held w).0)

    -- in one interval
    together : (k : ℕ) → 1 ≤ k → k < used response → interval response x y v k ≤ℤ interval response x y w k
    unfolding interval first
    together k a h = by (eqb (get_or response k 0) 1)
      where
        by : (t : Bool) → first t (line_at (value x (k - 1)) (value y (k - 1)) (value x k) (value y k) v) (value y k)
            ≤ℤ first t (line_at (value x (k - 1)) (value y (k - 1)) (value x k) (value y k) w) (value y k)
        by true = rises (value x (k - 1)) (value y (k - 1)) (value x k) (value y k) (later (k - 1) k (omega arith) h) v w q
        by false = ≤ℤ_refl (value y k)

    -- no interval ends behind the last point
    to_last : reaches x w 0 ≡ false → place response x w ≡ used response → curve response x y v ≤ℤ curve response x y w
    to_last f r = follows (omega (arith, ordered response x v, (at_beyond response x w y f r).begins))

    never : Stands response x v → Stands response x w → curve response x y v ≤ℤ curve response x y w
    never (first_point e) s = follows (omega (arith, (at_first_point response x v y e).ends))
    never (beyond e p) (first_point f) = absurd (true≢false (sym (nearer 0 f) ∙ e))
    never (beyond e p) (beyond f r) = to_last f r
    never (inside e p) (first_point f) = absurd (true≢false (sym (nearer 0 f) ∙ e))
    never (inside e p) (beyond f r) = to_last f r
    never (beyond e p) (inside f r) = absurd (r (omega (arith, place_later, place_to response x w)))
    never (inside e p) (inside f r) = by (ℕ_discrete (place response x v) (place response x w))
      where
        by : Dec (place response x v ≡ place response x w) → curve response x y v ≤ℤ curve response x y w
        by (yes n) =
            rw ((at_inside response x v y e p).output, (at_inside response x w y f r).output, n)
            (together (place response x w) (place_from response x w) (omega (arith, place_to response x w, r)))
        by (no n) = follows (omega (arith, place_later, n, (at_inside response x v y e p).ends, (at_inside response x w y f r).begins))

pub never_dips : NeverDips
never_dips response x y rise v w q = never response x y rise v w q (stands response x v) (stands response x w)
