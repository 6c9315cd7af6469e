-- What it means that a count goes on: every value is as it was.
-- Assumes nothing.
use Prim.Native.Nat.{ℕ, ◌+◌, ◌<◌, ◌≤◌}
use mathlib.Core.Bool.{Bool, true, false, not, ◌&&◌}
use mathlib.Core.Path.{◌≡◌, refl, sym, ap, ◌∙◌}
use native.Mathlib.Omega.{arith}
use borrow.Author.Tests.{eq-eqb, ne_eqb, lt-ltb, eqb-true, ltb-true}
use lib.Dec.{eqb, ltb}
use lib.IntN.{ℤ}
use lib.Signed.{≤ℤ_refl}
use Rattle.numbers.specs.Choice.{first}
use Rattle.numbers.specs.Order.{below}
use Rattle.numbers.proofs.Choices.{chosen}
use Rattle.numbers.proofs.Differences.{parts, same, not_above}
use Rattle.numbers.proofs.Orders.{le_is_not_below}
use Rattle.output.specs.Output.{equal, alike, unchanged, goes_on_counting, counted, begun}
use Rattle.output.specs.declared.Motion.{Motion}
use Rattle.output.specs.declared.Settings.{Settings}

pub clash : false ≡ true → ⊥
clash e = let h : ◌≡◌ {A = ℕ} 0 1 = cc in omega arith

-- a test that cannot hold
pub refused : (b : Bool) → (b ≡ true → ⊥) → b ≡ false
refused true never = absurd (never refl)
refused false never = refl

both : (a b : Bool) → a && b ≡ true → (a ≡ true) × (b ≡ true)
both true b e = (refl, e)
both false b e = absurd (clash e)

neither : (a b : Bool) → not a && not b ≡ true → (a ≡ false) × (b ≡ false)
neither false false e = (refl, refl)
neither false true e = absurd (clash e)
neither true b e = absurd (clash e)

pub equal_self : (a : ℤ) → equal a a ≡ true
unfolding equal
equal_self a = rw (le_is_not_below {a = a} {b = a} (≤ℤ_refl a))

pub equal_same : (a b : ℤ) → equal a b ≡ true → a ≡ b
unfolding equal
equal_same a b e =
    let n = neither (below a b) (below b a) e in
    same (parts a) (parts b) (omega (arith, not_above (parts a) (parts b) n.0, not_above (parts b) (parts a) n.1))

alike_self : (b : Bool) → alike b b ≡ true
unfolding alike first
alike_self true = refl
alike_self false = refl

alike_same : (a b : Bool) → alike a b ≡ true → a ≡ b
unfolding alike first
alike_same true true e = refl
alike_same true false e = sym e
alike_same false true e = e
alike_same false false e = refl

-- what a count that goes on has
pub record On (s : Settings) (m : Motion) (up : Bool) (ramp : ℕ) : Type 0 where
  pub some : m.count ≡ 0 → ⊥
  pub few : m.count < ramp
  pub used : m.used ≡ ramp
  pub rising : m.rising ≡ up
  pub fv1 : m.fv1 ≡ s.fv1
  pub fv2 : m.fv2 ≡ s.fv2

pub goes : (s : Settings) (m : Motion) (up : Bool) (ramp : ℕ) → goes_on_counting s m up ramp ≡ true → On s m up ramp
unfolding goes_on_counting unchanged
goes s m up ramp e =
    let low = equal m.fv1 s.fv1 in
    let high = equal m.fv2 s.fv2 in
    let same-ramp = eqb m.used ramp in
    let same_way = alike m.rising up in
    let a = both (not (eqb m.count 0) && ltb m.count ramp) (same-ramp && same_way && low && high) e in
    let b = both (not (eqb m.count 0)) (ltb m.count ramp) a.0 in
    let c = both (same-ramp && same_way && low) high a.1 in
    let d = both (same-ramp && same_way) low c.0 in
    let f = both same-ramp same_way d.0 in
    record {
      some = λ z. clash (rw (eq-eqb m.count 0 z) at b.0);
      few = ltb-true m.count ramp b.1;
      used = eqb-true m.used ramp f.0;
      rising = alike_same m.rising up f.1;
      fv1 = equal_same m.fv1 s.fv1 d.1;
      fv2 = equal_same m.fv2 s.fv2 c.1;
    }

pub is_on_lem : (s : Settings) (m : Motion) (up : Bool) (ramp : ℕ) → On s m up ramp → goes_on_counting s m up ramp ≡ true
unfolding goes_on_counting unchanged
is_on_lem s m up ramp on =
    rw (
      ne_eqb m.count 0 on.some,
      lt-ltb m.count ramp on.few,
      eq-eqb m.used ramp on.used,
      ap (λ (b : Bool). alike b up) on.rising ∙ alike_self up,
      ap (λ (z : ℤ). equal z s.fv1) on.fv1 ∙ equal_self s.fv1,
      ap (λ (z : ℤ). equal z s.fv2) on.fv2 ∙ equal_self s.fv2,
    )

-- the number of a tick: at least one, and more than one only where the count goes on
pub at_least : (s : Settings) (m : Motion) (up : Bool) (ramp : ℕ) → 1 ≤ counted s m up ramp
unfolding counted
at_least s m up ramp = chosen (λ (n : ℕ). 1 ≤ n) (goes_on_counting s m up ramp) (m.count + 1) 1 (λ e. omega arith) (λ e. omega arith)

pub more_is_on : (s : Settings) (m : Motion) (up : Bool) (ramp : ℕ) → 2 ≤ counted s m up ramp → On s m up ramp
unfolding counted
more_is_on s m up ramp =
    chosen (λ (n : ℕ). 2 ≤ n → On s m up ramp) (goes_on_counting s m up ramp) (m.count + 1) 1 (λ e l. goes s m up ramp e) (λ e l. absurd (omega arith))

pub counted_short : (s : Settings) (m : Motion) (up : Bool) (ramp : ℕ) → 0 < ramp → counted s m up ramp ≤ ramp
unfolding counted
counted_short s m up ramp h =
    chosen (λ (n : ℕ). n ≤ ramp) (goes_on_counting s m up ramp) (m.count + 1) 1 (λ e. omega (arith, (goes s m up ramp e).few)) (λ e. omega arith)

-- the command at which it began
pub begun_one : (m : Motion) (k : ℕ) (from : ℤ) → k ≡ 1 → begun m k from ≡ from
unfolding begun first
begun_one m k from e = rw (eq-eqb k 1 e)

pub begun_more : (m : Motion) (k : ℕ) (from : ℤ) → (k ≡ 1 → ⊥) → begun m k from ≡ m.start
unfolding begun first
begun_more m k from n = rw (ne_eqb k 1 n)
