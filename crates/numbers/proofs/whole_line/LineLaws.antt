-- Laws of the line that callers lean on, for all whole numbers: it meets both its points, it stays between its two end values, and it
-- rises where they rise, so that a larger x never gives a smaller output.
-- Assumes nothing.
use Prim.Native.Nat.{ℕ, ◌+◌, ◌-◌, ◌*◌, ◌≤◌, ◌<◌}
use mathlib.Core.Bool.{Bool, true, false}
use mathlib.Core.Path.{◌≡◌, refl, ap, sym, ◌∙◌, subst}
use native.Mathlib.Nat.{mul-add, add-mul, mul-le-mul_left}
use native.Mathlib.Omega.{arith}
use lib.IntN.{ℤ, pos, ◌+ℤ◌, ◌-ℤ◌, ◌*ℤ◌, *ℤ_comm}
use lib.Signed.{◌≤ℤ◌, ◌<ℤ◌, ≤ℤ_refl}
use Rattle.numbers.specs.Choice.{first}
use Rattle.numbers.specs.Order.{below}
use Rattle.numbers.specs.Limit.{limit_whole}
use Rattle.numbers.specs.Line.{nearest, between, line_at}
use Rattle.numbers.proofs.Differences.{Diff, same, plus, less, times, parts, plus_part, minus_part, natural, above, not_above, is_below, is_not_below, at_most, told_most}
use Rattle.numbers.proofs.Orders.{lt_is_below, le_is_not_below}
use Rattle.numbers.proofs.whole_line.Rounding.{mono, keeps}

-- ---- t steps of d on the way from y1 to y2
steps : ℤ → ℤ → ℕ → ℕ → ℤ
steps y1 y2 d t = y1 *ℤ pos d +ℤ pos t *ℤ (y2 -ℤ y1)

-- (t' - t)(g - h) is not negative
cross : (t t' g h : ℕ) → t ≤ t' → h ≤ g → t * g + t' * h ≤ t' * g + t * h
cross t t' g h l m =
    let s = t' - t in
    let e : t + s ≡ t' = omega arith in
    let i = mul-le-mul_left s m in
    let j : t * g + s * g ≡ t' * g = sym (add-mul t s g) ∙ ap (λ (n : ℕ). n * g) e in
    let k : t * h + s * h ≡ t' * h = sym (add-mul t s h) ∙ ap (λ (n : ℕ). n * h) e in
    omega arith

scaled : (z : ℤ) (d : ℕ) → Diff (z *ℤ pos d) (d * plus_part z) (d * minus_part z)
scaled z d = rw (*ℤ_comm z (pos d)) (times d (parts z))

module _ (y1 y2 : ℤ) where
  g : ℕ
  g = plus_part y2 + minus_part y1

  h : ℕ
  h = minus_part y2 + plus_part y1

  steps_are : (d t : ℕ) → Diff (steps y1 y2 d t) (d * plus_part y1 + t * g) (d * minus_part y1 + t * h)
  unfolding steps g h
  steps_are d t = plus (scaled y1 d) (times t (less (parts y2) (parts y1)))

  rising : (d : ℕ) → 0 < d → {t t' : ℕ} → y1 ≤ℤ y2 → t ≤ t' → nearest (steps y1 y2 d t) d ≤ℤ nearest (steps y1 y2 d t') d
  unfolding g h
  rising d p {t} {t'} o l =
      let m = told_most (parts y1) (parts y2) o in
      let c = cross t t' g h l (omega arith) in
      mono d p (at_most (steps_are d t) (steps_are d t') (omega arith))

  falling : (d : ℕ) → 0 < d → {t t' : ℕ} → y2 ≤ℤ y1 → t ≤ t' → nearest (steps y1 y2 d t') d ≤ℤ nearest (steps y1 y2 d t) d
  unfolding g h
  falling d p {t} {t'} o l =
      let m = told_most (parts y2) (parts y1) o in
      let c = cross t t' h g l (omega arith) in
      mono d p (at_most (steps_are d t') (steps_are d t) (omega arith))

  none : (d : ℕ) → 0 < d → nearest (steps y1 y2 d 0) d ≡ y1
  none d p =
      let e : steps y1 y2 d 0 ≡ y1 *ℤ pos d = same (steps_are d 0) (scaled y1 d) (omega arith) in
      ap (λ (z : ℤ). nearest z d) e ∙ keeps d p y1

  all : (d : ℕ) → 0 < d → nearest (steps y1 y2 d d) d ≡ y2
  unfolding g h
  all d p =
      let e : steps y1 y2 d d ≡ y2 *ℤ pos d =
      same (steps_are d d) (scaled y2 d)
      (omega (arith, mul-add d (plus_part y2) (minus_part y1), mul-add d (minus_part y2) (plus_part y1))) in
      ap (λ (z : ℤ). nearest z d) e ∙ keeps d p y2

-- ---- b - a, where a is below b
far : ℤ → ℤ → ℕ
far a b = (plus_part b + minus_part a) - (minus_part b + plus_part a)

apart : (a b : ℤ) → below a b ≡ true → b -ℤ a ≡ pos (far a b)
unfolding far
apart a b e = let l = above (parts a) (parts b) e in natural (less (parts b) (parts a)) (omega arith)

far_above : (a b : ℤ) → below a b ≡ true → 0 < far a b
unfolding far
far_above a b e = let l = above (parts a) (parts b) e in omega arith

farther : (a b c : ℤ) → b ≤ℤ c → far a b ≤ far a c
unfolding far
farther a b c o = let l = told_most (parts b) (parts c) o in omega arith

within : (b c : ℤ) → below b c ≡ true → b ≤ℤ c
within b c e = let l = above (parts b) (parts c) e in at_most (parts b) (parts c) (omega arith)

-- ---- the line at x, by the place of x
module _ (x1 y1 x2 y2 : ℤ) where
  at_first : (x : ℤ) → below x1 x ≡ false → line_at x1 y1 x2 y2 x ≡ y1
  unfolding line_at first
  at_first x e = rw e

  at_second : (x : ℤ) → below x1 x ≡ true → below x x2 ≡ false → line_at x1 y1 x2 y2 x ≡ y2
  unfolding line_at first
  at_second x e f = rw (e, f)

  wide : (x : ℤ) → below x1 x ≡ true → below x x2 ≡ true → below x1 x2 ≡ true
  wide x e f =
      let l = above (parts x1) (parts x) e in
      let m = above (parts x) (parts x2) f in
      is_below (parts x1) (parts x2) (omega arith)

  inner : (x : ℤ) → below x1 x ≡ true → below x x2 ≡ true → line_at x1 y1 x2 y2 x ≡ nearest (steps y1 y2 (far x1 x2) (far x1 x)) (far x1 x2)
  unfolding line_at first between steps
  inner x e f = rw (e, f, apart x1 x2 (wide x e f), apart x1 x e)

  -- what holds of both ends and of every step between them holds of the line
  everywhere : (P : ℤ → Type 0) → P y1 → P y2 → ((d t : ℕ) → 0 < d → t ≤ d → P (nearest (steps y1 y2 d t) d)) → (x : ℤ) → P (line_at x1 y1 x2 y2 x)
  everywhere P p q r x = by (below x1 x) refl (below x x2) refl
    where
      by : (s : Bool) → below x1 x ≡ s → (t : Bool) → below x x2 ≡ t → P (line_at x1 y1 x2 y2 x)
      by false e t f = rw (at_first x e) p
      by true e false f = rw (at_second x e f) q
      by true e true f =
          rw (inner x e f) (r (far x1 x2) (far x1 x) (far_above x1 x2 (wide x e f)) (farther x1 x x2 (within x x2 f)))

  -- ---- the line meets both its points
  pub meets_first : line_at x1 y1 x2 y2 x1 ≡ y1
  meets_first = at_first x1 (le_is_not_below (≤ℤ_refl x1))

  pub meets_second : x1 <ℤ x2 → line_at x1 y1 x2 y2 x2 ≡ y2
  meets_second o = at_second x2 (lt_is_below o) (le_is_not_below (≤ℤ_refl x2))

  -- ---- it stays between its end values
  pub from_first : y1 ≤ℤ y2 → (x : ℤ) → y1 ≤ℤ line_at x1 y1 x2 y2 x
  from_first o =
      everywhere (λ (z : ℤ). y1 ≤ℤ z) (≤ℤ_refl y1) o
      (λ d t p l. subst (λ (z : ℤ). z ≤ℤ nearest (steps y1 y2 d t) d) (none y1 y2 d p) (rising y1 y2 d p o (omega arith)))

  pub to_second : y1 ≤ℤ y2 → (x : ℤ) → line_at x1 y1 x2 y2 x ≤ℤ y2
  to_second o =
      everywhere (λ (z : ℤ). z ≤ℤ y2) o (≤ℤ_refl y2)
      (λ d t p l. subst (λ (z : ℤ). nearest (steps y1 y2 d t) d ≤ℤ z) (all y1 y2 d p) (rising y1 y2 d p o l))

  pub from_second : y2 ≤ℤ y1 → (x : ℤ) → y2 ≤ℤ line_at x1 y1 x2 y2 x
  from_second o =
      everywhere (λ (z : ℤ). y2 ≤ℤ z) o (≤ℤ_refl y2)
      (λ d t p l. subst (λ (z : ℤ). z ≤ℤ nearest (steps y1 y2 d t) d) (all y1 y2 d p) (falling y1 y2 d p o l))

  pub to_first : y2 ≤ℤ y1 → (x : ℤ) → line_at x1 y1 x2 y2 x ≤ℤ y1
  to_first o =
      everywhere (λ (z : ℤ). z ≤ℤ y1) (≤ℤ_refl y1) o
      (λ d t p l. subst (λ (z : ℤ). nearest (steps y1 y2 d t) d ≤ℤ z) (none y1 y2 d p) (falling y1 y2 d p o (omega arith)))

  -- ---- a larger x never gives a smaller output, where the end values rise
  farther_than : (x x' : ℤ) → x ≤ℤ x' → below x1 x ≡ true → below x1 x' ≡ true
  farther_than x x' q e =
      let l = above (parts x1) (parts x) e in
      let m = told_most (parts x) (parts x') q in
      is_below (parts x1) (parts x') (omega arith)

  still_past : (x x' : ℤ) → x ≤ℤ x' → below x x2 ≡ false → below x' x2 ≡ false
  still_past x x' q f =
      let l = not_above (parts x) (parts x2) f in
      let m = told_most (parts x) (parts x') q in
      is_not_below (parts x') (parts x2) (omega arith)

  pub rises : y1 ≤ℤ y2 → (x x' : ℤ) → x ≤ℤ x' → line_at x1 y1 x2 y2 x ≤ℤ line_at x1 y1 x2 y2 x'
  rises o x x' q = by (below x1 x) refl (below x x2) refl (below x' x2) refl
    where
      by : (s : Bool) → below x1 x ≡ s → (t : Bool) → below x x2 ≡ t → (u : Bool) → below x' x2 ≡ u → line_at x1 y1 x2 y2 x ≤ℤ line_at x1 y1 x2 y2 x'
      by false e t f u k = rw (at_first x e) (from_first o x')
      by true e false f u k = rw (at_second x e f, at_second x' (farther_than x x' q e) (still_past x x' q f)) (≤ℤ_refl y2)
      by true e true f false k = rw (at_second x' (farther_than x x' q e) k) (to_second o x)
      by true e true f true k =
          rw (inner x e f, inner x' (farther_than x x' q e) k)
          (rising y1 y2 (far x1 x2) (far_above x1 x2 (wide x e f)) o (farther x1 x x' q))

  -- ---- at an x limited to its points it is what it is at x, but for points in the wrong order: then it is the first y
  pub limited_kept : below x1 x2 ≡ true → (x : ℤ) → line_at x1 y1 x2 y2 (limit_whole x x1 x2) ≡ line_at x1 y1 x2 y2 x
  unfolding limit_whole first
  limited_kept o x = by (below x x1) refl (below x2 x) refl
    where
      by : (s : Bool) → below x x1 ≡ s → (t : Bool) → below x2 x ≡ t → line_at x1 y1 x2 y2 (first s x1 (first t x2 x)) ≡ line_at x1 y1 x2 y2 x
      by true e t f =
          let l = above (parts x) (parts x1) e in
          meets_first ∙ sym (at_first x (is_not_below (parts x1) (parts x) (omega arith)))
      by false e true f =
          let l = above (parts x2) (parts x) f in
          let m = above (parts x1) (parts x2) o in
          at_second x2 o (is_not_below (parts x2) (parts x2) (omega arith))
          ∙ sym (at_second x (is_below (parts x1) (parts x) (omega arith)) (is_not_below (parts x) (parts x2) (omega arith)))
      by false e false f = refl

  pub limited_crossed : below x1 x2 ≡ false → (x : ℤ) → line_at x1 y1 x2 y2 (limit_whole x x1 x2) ≡ y1
  unfolding limit_whole first
  limited_crossed o x = by (below x x1) refl (below x2 x) refl
    where
      by : (s : Bool) → below x x1 ≡ s → (t : Bool) → below x2 x ≡ t → line_at x1 y1 x2 y2 (first s x1 (first t x2 x)) ≡ y1
      by true e t f = meets_first
      by false e true f = at_first x2 o
      by false e false f =
          let l = not_above (parts x1) (parts x2) o in
          let m = not_above (parts x2) (parts x) f in
          at_first x (is_not_below (parts x1) (parts x) (omega arith))
