-- A ramp lasts as long as it says.
-- Assumes nothing.
use Prim.Native.Nat.{ℕ, zero, suc, ◌+◌, ◌*◌, ◌/◌, ◌<◌, ◌≤◌}
use mathlib.Core.Bool.{Bool, true, false}
use mathlib.Core.Path.{◌≡◌, refl, sym, ap, ◌∙◌, subst}
use native.Mathlib.Nat.{suc-mul, zero-mul, zero-div, mul_comm, div-mul-le_self, le-div_iff_mul-le, div-lt_iff_lt-mul, mul-le-mul_right}
use native.Mathlib.Omega.{arith}
use borrow.Author.Tests.{eq-eqb, ne_eqb, eqb-false, ltb-true, ltb-false}
use lib.Dec.{eqb, ltb}
use lib.IntN.{ℤ, pos, nat_abs, ◌+ℤ◌, ◌-ℤ◌}
use lib.Signed.{◌≤ℤ◌, ◌<ℤ◌}
use Rattle.numbers.specs.Choice.{first}
use Rattle.numbers.specs.Limit.{limit_whole}
use Rattle.numbers.specs.Order.{below}
use Rattle.numbers.proofs.Choices.{chosen, either}
use Rattle.numbers.proofs.Differences.{parts, plus_part, minus_part, whole, plus, less, natural, same, above, not_above, told_most, is_below}
use Rattle.numbers.proofs.limits.LimitLaws.{limit_from, limit_to, limit_stays}
use Rattle.numbers.proofs.Orders.{lt_is_below, le_is_not_below}
use Rattle.numbers.proofs.OrderLaws.{below_le, ≤ℤ_trans, up, down}
use Rattle.output.specs.Commanded.{Within}
use Rattle.output.specs.Lasting.{along, short, Course, after, until, Keeps, Ahead, Starts, Goes, Lasts, near, far, Due, again, MovesOn, OnTime, AtOnce}
use Rattle.output.specs.Output.{span, way, higher, lower, rise, fall, reached, equal, goes_on_counting, counted, begun, rests, advanced, moved, target, ramped, by_rule}
use Rattle.output.specs.declared.Motion.{Motion}
use Rattle.output.specs.declared.Settings.{Settings}
use Rattle.output.proofs.Counts.{clash, refused, equal_self, equal_same, On, goes, is_on_lem}
use Rattle.output.proofs.OutputLaws.{way_most, target_within}

-- ---- numbers

-- what lies short of b in a direction is below it exactly where the direction is up
short_below : (rising : Bool) (a b : ℤ) → short rising a b ≡ true → below a b ≡ rising
unfolding short first
short_below true a b e = e
short_below false a b e = le_is_not_below (below_le b a e)

short_apart : (rising : Bool) (a b : ℤ) → short rising a b ≡ true → equal a b ≡ false
unfolding short first equal
short_apart true a b e = rw e
short_apart false a b e = rw (short_below false a b e, e)

none_along : (rising : Bool) (x : ℤ) → along rising x 0 ≡ x
unfolding along first
none_along true x = same (plus (parts x) (whole 0)) (parts x) (omega arith)
none_along false x = same (less (parts x) (whole 0)) (parts x) (omega arith)

less_short : (rising : Bool) (x b : ℤ) (n m : ℕ) → n ≤ m → short rising (along rising x m) b ≡ true → short rising (along rising x n) b ≡ true
unfolding short along first
less_short true x b n m h e = let l = above (plus (parts x) (whole m)) (parts b) e in is_below (plus (parts x) (whole n)) (parts b) (omega arith)
less_short false x b n m h e = let l = above (parts b) (less (parts x) (whole m)) e in is_below (parts b) (less (parts x) (whole n)) (omega arith)

-- ---- the way

way_grows : (k width ramp : ℕ) → 0 < ramp → way k width ramp ≤ way (suc k) width ramp
unfolding way
way_grows k width ramp h = (le-div_iff_mul-le {k = ramp} {x = k * width / ramp} {y = suc k * width} h).1 (omega (arith, div-mul-le_self (k * width) ramp, suc-mul k width))

way_none : (width ramp : ℕ) → way 0 width ramp ≡ 0
unfolding way
way_none width ramp = rw (zero-mul, zero-div)

way_whole : (k width ramp : ℕ) → 0 < ramp → ramp ≤ k → width ≤ way k width ramp
unfolding way
way_whole k width ramp h l = (le-div_iff_mul-le {k = ramp} {x = width} {y = k * width} h).1 (omega (arith, mul_comm width ramp, mul-le-mul_right width l))

way_less : (k width ramp : ℕ) → 0 < width → k < ramp → way k width ramp < width
unfolding way
way_less k width ramp h l = (div-lt_iff_lt-mul {k = ramp} {x = k * width} {y = width} (omega arith)).1 (omega (arith, mul_comm width ramp, mul-le-mul_right width l, suc-mul k width))

-- FV2 - FV1 by the parts of both
span_parts : (low high : ℤ) → low <ℤ high → span low high + minus_part high + plus_part low ≡ plus_part high + minus_part low
unfolding span first
span_parts low high order =
    let e = lt_is_below order in
    let l = above (parts low) (parts high) e in
    let n = ap nat_abs (natural (less (parts high) (parts low)) (omega arith)) in
    rw e (omega arith)

-- ---- between the limits

module _ {low high x b : ℤ} (wx : Within low high x) (wb : Within low high b) where
  along_within : (rising : Bool) (n : ℕ) → short rising (along rising x n) b ≡ true → Within low high (along rising x n)
  unfolding short along first
  along_within true n e = record { from = ≤ℤ_trans wx.from (up x n); to = ≤ℤ_trans (below_le (x +ℤ pos n) b e) wb.to }
  along_within false n e = record { from = ≤ℤ_trans wb.from (below_le b (x -ℤ pos n) e); to = ≤ℤ_trans (down x n) wx.to }

  -- who has not arrived has gone less than all the way
  along_less : (rising : Bool) (n : ℕ) → low <ℤ high → short rising (along rising x n) b ≡ true → n < span low high
  unfolding short along first
  along_less true n o e = omega (arith, span_parts low high o, above (plus (parts x) (whole n)) (parts b) e, told_most (parts low) (parts x) wx.from, told_most (parts b) (parts high) wb.to)
  along_less false n o e = omega (arith, span_parts low high o, above (parts b) (less (parts x) (whole n)) e, told_most (parts x) (parts high) wx.to, told_most (parts low) (parts b) wb.from)

-- ---- one tick of a count

after_none : (c : Course) → after c 0 ≡ c.start
unfolding after
after_none c = ap (along c.rising c.start) (way_none (span c.fv1 c.fv2) c.ramp) ∙ none_along c.rising c.start

-- a movement that has not shrunk leads no less far: nothing is held back at where the command stands
no_less : (rising : Bool) (x to : ℤ) (n m : ℕ) → n ≤ m → reached rising x m (along rising x n) to ≡ first (short rising (along rising x m) to) (along rising x m) to
unfolding reached rise fall higher lower along short first
no_less true x to n m h =
    let up : (k : ℕ) → ℤ = λ k. x +ℤ pos k in
    ap (λ (z : ℤ). first (below (up m) to) z to)
    (chosen (λ (z : ℤ). z ≡ up m) (below (up n) (up m)) (up m) (up n) (λ e. refl)
    (λ e. same (plus (parts x) (whole n)) (plus (parts x) (whole m)) (omega (arith, not_above (plus (parts x) (whole n)) (plus (parts x) (whole m)) e))))
no_less false x to n m h =
    let down : (k : ℕ) → ℤ = λ k. x -ℤ pos k in
    ap (λ (z : ℤ). first (below to (down m)) z to)
    (chosen (λ (z : ℤ). z ≡ down m) (below (down n) (down m)) (down n) (down m)
    (λ e. absurd (omega (arith, above (less (parts x) (whole n)) (less (parts x) (whole m)) e))) (λ e. refl))

-- no count goes on over what starts one
not_on : (c : Course) (s : Settings) (m : Motion) → Keeps c s → Starts c m → goes_on_counting s m c.rising c.ramp ≡ false
not_on c s m keeps begins = refused _ (λ e. by begins (goes s m c.rising c.ramp e))
  where
    by : Starts c m → On s m c.rising c.ramp → ⊥
    by (Starts.none z) on = on.some z
    by (Starts.direction z) on = z on.rising
    by (Starts.fv1 z) on = z (on.fv1 ∙ keeps.fv1)
    by (Starts.fv2 z) on = z (on.fv2 ∙ keeps.fv2)
    by (Starts.ramp z) on = z on.used

module _ (c : Course) (order : c.fv1 <ℤ c.fv2) (some : 0 < c.ramp) where
  abbrev width : ℕ
  width = span c.fv1 c.fv2

  -- the motion after k ticks that did not reach their targets
  going : ℕ → Motion
  going k = record { command = after c k; count = k; start = c.start; rising = c.rising; fv1 = c.fv1; fv2 = c.fv2; used = c.ramp }

  -- k ticks are counted from the start
  record Counts (k : ℕ) (m : Motion) : Type 0 where
    inside : Within c.fv1 c.fv2 c.start
    place : limit_whole m.command c.fv1 c.fv2 ≡ after c k
    next : (s : Settings) → Keeps c s → k < c.ramp → counted s m c.rising c.ramp ≡ suc k
    start : begun m (suc k) (after c k) ≡ c.start

  -- the target lies between the limits
  aimed : (s : Settings) (v : ℤ) → Keeps c s → Within c.fv1 c.fv2 (target s v)
  aimed s v k =
      let o = subst (λ (z : ℤ). z <ℤ s.fv2) (sym k.fv1) (subst (λ (z : ℤ). c.fv1 <ℤ z) (sym k.fv2) order) in
      let w = target_within s o v in
      record { from = subst (λ (z : ℤ). z ≤ℤ target s v) k.fv1 w.from; to = subst (λ (z : ℤ). target s v ≤ℤ z) k.fv2 w.to }

  at_start : {m : Motion} → Starts c m → limit_whole m.command c.fv1 c.fv2 ≡ c.start → Counts 0 m
  unfolding counted begun first
  at_start {m} begins e =
      let le = below_le c.fv1 c.fv2 (lt_is_below order) in
      record {
        inside = subst (Within c.fv1 c.fv2) e (record { from = limit_from m.command c.fv1 c.fv2 le; to = limit_to m.command c.fv1 c.fv2 le });
        place = e ∙ sym (after_none c);
        next = λ s k l. rw (not_on c s m k begins);
        start = after_none c;
      }

  module _ {k : ℕ} {m : Motion} (counts : Counts k m) (s : Settings) (v : ℤ) (keeps : Keeps c s) (ahead : Ahead c k (target s v)) where
    -- who has not arrived has counted fewer ticks than the ramp has
    fewer : (t : Bool) → ltb k c.ramp ≡ t → k < c.ramp
    unfolding Ahead after
    fewer true e = ltb-true k c.ramp e
    fewer false e =
        absurd (omega (arith, way_whole k width c.ramp some (ltb-false k c.ramp e), along_less counts.inside (aimed s v keeps) c.rising (way k width c.ramp) order ahead))

    abbrev ticked : k < c.ramp
    ticked = fewer (ltb k c.ramp) refl

    from_here : limit_whole m.command s.fv1 s.fv2 ≡ after c k
    from_here = ap (λ (z : ℤ). limit_whole m.command z s.fv2) keeps.fv1 ∙ ap (limit_whole m.command c.fv1) keeps.fv2 ∙ counts.place

    same_width : span s.fv1 s.fv2 ≡ width
    same_width = ap (λ (z : ℤ). span z s.fv2) keeps.fv1 ∙ ap (span c.fv1) keeps.fv2

    -- the tick, whole
    moves : let command = until c (suc k) (target s v) in
        ramped s v m ≡
        first (equal command (target s v)) (rests (target s v))
        (record { command = command; count = suc k; start = c.start; rising = c.rising; fv1 = c.fv1; fv2 = c.fv2; used = c.ramp })
    unfolding ramped moved advanced until after Ahead first
    moves =
        let to = target s v in
        rw (
          from_here,
          short_apart c.rising (after c k) to ahead,
          short_below c.rising (after c k) to ahead,
          keeps.ramp,
          ne_eqb c.ramp 0 (λ z. omega arith),
          counts.next s keeps ticked,
          counts.start,
          same_width,
          no_less c.rising c.start to (way k width c.ramp) (way (suc k) width c.ramp) (way_grows k width c.ramp some),
          keeps.fv1,
          keeps.fv2,
        )

  -- nothing has changed at the next tick
  stays : (k : ℕ) (s : Settings) → Keeps c s → suc k < c.ramp → counted s (going (suc k)) c.rising c.ramp ≡ suc (suc k)
  unfolding counted going first
  stays k s keeps few =
      rw (is_on_lem s (going (suc k)) c.rising c.ramp
      (record { some = λ e. omega arith; few = few; used = refl; rising = refl; fv1 = sym keeps.fv1; fv2 = sym keeps.fv2 })) (omega arith)

  -- a tick that does not reach its target
  goes_to : {k : ℕ} {m : Motion} → Counts k m → (s : Settings) (v : ℤ) → Keeps c s → Ahead c (suc k) (target s v) → ramped s v m ≡ going (suc k)
  unfolding Ahead until after first going
  goes_to {k} counts s v keeps ahead =
      let short-of = less_short c.rising c.start (target s v) (way k width c.ramp) (way (suc k) width c.ramp) (way_grows k width c.ramp some) ahead in
      moves counts s v keeps short-of ∙ rw (ahead, short_apart c.rising (after c (suc k)) (target s v) ahead)

  on_its_way : {k : ℕ} {m : Motion} → Counts k m → (s : Settings) (v : ℤ) → Keeps c s → Ahead c (suc k) (target s v) → Counts (suc k) (ramped s v m)
  unfolding Ahead after begun first going
  on_its_way {k} counts s v keeps ahead =
      let w = along_within counts.inside (aimed s v keeps) c.rising (way (suc k) width c.ramp) ahead in
      subst (Counts (suc k)) (sym (goes_to counts s v keeps ahead))
      (record {
        inside = counts.inside;
        place = limit_stays (after c (suc k)) c.fv1 c.fv2 w.from w.to;
        next = stays k;
        start = rw (ne_eqb (suc (suc k)) 1 (λ e. omega arith));
      })

  counted_up : {k : ℕ} {m : Motion} → Goes c k m → Counts k m
  counted_up (Goes.starts z e) = at_start z e
  counted_up (Goes.goes s v g keeps ahead) = on_its_way (counted_up g) s v keeps ahead

-- the command is there, whether it arrived or not
pub lasts : Lasts
unfolding rests
lasts c k m s v order some g keeps ahead =
    let to = target s v in
    ap (λ (n : Motion). n.command) (moves c order some (counted_up c order some g) s v keeps ahead)
    ∙ chosen (λ (n : Motion). n.command ≡ until c (suc k) to) (equal (until c (suc k) to) to) _ _ (λ e. sym (equal_same (until c (suc k) to) to e)) (λ e. refl)

pub moves_on : MovesOn
unfolding after going
moves_on c k m order some (Goes.goes s v g keeps ahead) =
    ap (λ (n : Motion). n.command) (goes_to c order some (counted_up c order some g) s v keeps ahead)

-- ---- from one end to the other

-- the whole FV2 - FV1 leads there, and less does not
at_end : (rising : Bool) (low high : ℤ) → low <ℤ high → along rising (first rising low high) (span low high) ≡ first rising high low
unfolding along first
at_end true low high o = same (plus (parts low) (whole (span low high))) (parts high) (omega (arith, span_parts low high o))
at_end false low high o = same (less (parts high) (whole (span low high))) (parts low) (omega (arith, span_parts low high o))

short_of_end : (rising : Bool) (low high : ℤ) → low <ℤ high → (n : ℕ) → n < span low high → short rising (along rising (first rising low high) n) (first rising high low) ≡ true
unfolding short along first
short_of_end true low high o n h = is_below (plus (parts low) (whole n)) (parts high) (omega (arith, span_parts low high o))
short_of_end false low high o n h = is_below (parts low) (less (parts high) (whole n)) (omega (arith, span_parts low high o))

module _ (c : Course) (order : c.fv1 <ℤ c.fv2) (here : c.start ≡ near c) where
  pub end_ahead : (k : ℕ) → k < c.ramp → Ahead c k (far c)
  unfolding Ahead after near far
  end_ahead k h =
      let some-way : 0 < span c.fv1 c.fv2 = omega (arith, span_parts c.fv1 c.fv2 order, above (parts c.fv1) (parts c.fv2) (lt_is_below order)) in
      rw here (short_of_end c.rising c.fv1 c.fv2 order _ (way_less k (span c.fv1 c.fv2) c.ramp some-way h))

  there : {k : ℕ} → k ≡ c.ramp → 0 < c.ramp → after c k ≡ far c
  unfolding after near far
  there {k} e some =
      let width = span c.fv1 c.fv2 in
      let full : way k width c.ramp ≡ width = omega (arith, way_most k width c.ramp some (omega arith), way_whole k width c.ramp some (omega arith)) in
      rw (here, full) (at_end c.rising c.fv1 c.fv2 order)

  on_the_way : {k : ℕ} → k < c.ramp → until c k (far c) ≡ after c k
  unfolding until Ahead first
  on_the_way {k} l = rw (end_ahead k l)

  pub due : (k : ℕ) → k < c.ramp → Due c (suc k) (until c (suc k) (far c))
  unfolding until Ahead
  due k h =
      record {
        not_before = λ l. let a = end_ahead (suc k) l in subst (λ (z : ℤ). short c.rising z (far c) ≡ true) (sym (on_the_way l)) a;
        then = λ e. rw (there e (omega arith), either (short c.rising (far c) (far c)) (far c));
      }

pub on_time : OnTime
unfolding again
on_time c s v m order keeps here aim begins k h =
    subst (Due c (suc k)) (sym (lasts c k (again k (ramped s v) m) s v order (omega arith) (ticking k h) keeps (ahead k h) ∙ ap (until c (suc k)) aim)) (due c order here k h)
  where
    ahead : (k : ℕ) → k < c.ramp → Ahead c k (target s v)
    ahead k h = subst (Ahead c k) (sym aim) (end_ahead c order here k h)

    ticking : (k : ℕ) → k < c.ramp → Goes c k (again k (ramped s v) m)
    ticking zero h = begins
    ticking (suc k) h = Goes.goes s v (ticking k (omega arith)) keeps (ahead (suc k) h)

pub at_once : AtOnce
unfolding ramped rests first
at_once s v m e = rw (eq-eqb _ 0 e, either (equal (limit_whole m.command s.fv1 s.fv2) (target s v)) (rests (target s v)))

-- ---- what leaves no count

-- standing at the target
pub stands_still : (s : Settings) (v : ℤ) (m : Motion) → (ramped s v m).command ≡ target s v → (ramped s v m).count ≡ 0
unfolding ramped moved advanced rests
stands_still s v m =
    let P : Motion → Type 0 = λ n. n.command ≡ target s v → n.count ≡ 0 in
    chosen P _ _ _ (λ e there. refl) (λ e. chosen P _ _ _ (λ g there. refl) (λ g. chosen P _ _ _ (λ f there. refl)
    (λ f there. absurd (clash (sym f ∙ ap (λ (z : ℤ). equal z (target s v)) there ∙ equal_self (target s v))))))

-- rules 1 to 6
pub named_still : (n : ℕ) (s : Settings) (v : ℤ) (m : Motion) → 1 ≤ n → n < 7 → (by_rule n s v m).count ≡ 0
unfolding by_rule rests
named_still n s v m low high =
    let P : Motion → Type 0 = λ m. m.count ≡ 0 in
    chosen P (eqb n 1) _ _ (λ e. refl) (λ a. chosen P (eqb n 2) _ _ (λ e. refl) (λ b. chosen P (eqb n 3) _ _ (λ e. refl)
    (λ d. chosen P (eqb n 4) _ _ (λ e. refl) (λ f. chosen P (eqb n 5) _ _ (λ e. refl) (λ g. chosen P (eqb n 6) _ _ (λ e. refl)
    (λ h. absurd (seven (eqb-false n 1 a) (eqb-false n 2 b) (eqb-false n 3 d) (eqb-false n 4 f) (eqb-false n 5 g) (eqb-false n 6 h))))))))
  where
    seven : (n ≡ 1 → ⊥) → (n ≡ 2 → ⊥) → (n ≡ 3 → ⊥) → (n ≡ 4 → ⊥) → (n ≡ 5 → ⊥) → (n ≡ 6 → ⊥) → ⊥
    seven a b d f g h = omega arith
