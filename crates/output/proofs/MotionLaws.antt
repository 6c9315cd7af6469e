-- What an output remembers: a tick leaves what its words can hold, and it is read as it was laid down.
-- Assumes nothing.
use Prim.Native.Nat.{ℕ, zero, suc, ◌+◌, ◌-◌, ◌*◌, ◌%◌, ◌<◌, ◌≤◌}
use mathlib.Core.Bool.{Bool, true, false, not}
use mathlib.Core.List.{List, [], ◌∷◌}
use mathlib.Core.Logic.{⊎_elim}
use mathlib.Core.Path.{◌≡◌, refl, sym, ap, ◌∙◌, subst}
use native.Mathlib.Nat.{mod-eq_of_lt, eq-or-lt_of_le}
use native.Mathlib.Omega.{arith}
use borrow.Author.Tests.{eq-eqb, ne_eqb, eqb-true, eqb-false}
use lib.Dec.{eqb, lit<, lit≤}
use lib.IntN.{ℤ, pos}
use lib.ListN.{length, get_or, set, length-set}
use lib.Seq.{get_or-set_same, get_or-set_other}
use lib.Signed.{◌<ℤ◌}
use mir.Syntax.{w16}
use mir.Val.{SFits}
use Rattle.numbers.specs.Choice.{first}
use Rattle.numbers.specs.Signed.{signed16, pattern16}
use Rattle.numbers.proofs.Choices.{chosen}
use Rattle.numbers.proofs.OrderLaws.{between_fits}
use Rattle.signals.proofs.keeping.WordLaws.{pattern_read}
use Rattle.signals.specs.Signal.{whole}
use Rattle.signals.specs.declared.signal.Signal.{Signal}
use Rattle.dictionary.specs.Names.{slot_of}
use Rattle.dictionary.specs.Unit.{ramps_at, ramp_count_at, ramp_start_at, ramp_rising_at, ramp_fv1_at, ramp_fv2_at, ramp_used_at, unit_size}
use Rattle.unit.specs.Entry as entry
use Rattle.unit.proofs.Slots.{has, array}
use Rattle.output.specs.Commanded.{Within}
use Rattle.output.specs.Output.{fault_of, counted, rests, advanced, moved, in_use, ramped, by_rule, driven}
use Rattle.output.specs.Outputs.{motion, noted, remember}
use Rattle.output.specs.declared.Motion.{Motion}
use Rattle.output.specs.declared.Settings.{Settings}
use Rattle.output.proofs.Counts.{at_least, more_is_on, begun_one, begun_more}
use Rattle.output.proofs.ramps.ReadLaws.{count_is, start_is, rising_is, fv1_is, fv2_is, used_is}
use Rattle.output.proofs.OutputLaws.{limited_within, target_within, ramped_within}

-- the word w of output k + 1's six
abbrev pub ramp_word : ℕ → ℕ → ℕ
ramp_word k w = ramps_at + 4 * w + k

-- ---- what a tick leaves

-- what a count began with fits its words
pub record Fits (m : Motion) : Type 0 where
  pub start : SFits w16 m.start
  pub fv1 : SFits w16 m.fv1
  pub fv2 : SFits w16 m.fv2
  pub used : m.used < 65536

-- what a count began with stays
pub record Stays (m next : Motion) : Type 0 where
  pub some : m.count ≡ 0 → ⊥
  pub start : next.start ≡ m.start
  pub rising : next.rising ≡ m.rising
  pub fv1 : next.fv1 ≡ m.fv1
  pub fv2 : next.fv2 ≡ m.fv2
  pub used : next.used ≡ m.used

-- a tick ends a count, begins one or goes on with one
pub record Left (m next : Motion) : Type 0 where
  pub command : SFits w16 next.command
  pub none : next.count ≡ 0 → next ≡ rests next.command
  pub one : next.count ≡ 1 → Fits next
  pub more : 2 ≤ next.count → Stays m next

none_fits : SFits w16 (pos 0)
none_fits = record { sfits = lit< tt }

rests_left : (m : Motion) {z : ℤ} → SFits w16 z → Left m (rests z)
unfolding rests
rests_left m f = record { command = f; none = λ e. refl; one = λ e. absurd (omega arith); more = λ l. absurd (omega arith) }

pub record Settled (s : Settings) : Type 0 where
  pub order : s.fv1 <ℤ s.fv2
  pub fv1 : SFits w16 s.fv1
  pub fv2 : SFits w16 s.fv2
  pub fault : SFits w16 s.fault_fv
  pub override : SFits w16 s.override_fv
  pub up : s.ramp_up < 65536
  pub down : s.ramp_down < 65536

module _ (s : Settings) (f : Settled s) where
  inside : {z : ℤ} → Within s.fv1 s.fv2 z → SFits w16 z
  inside w = between_fits s.fv1 _ s.fv2 f.fv1 f.fv2 w.from w.to

  in_use_short : (rising : Bool) → in_use s rising < 65536
  unfolding in_use
  in_use_short rising = chosen (λ (n : ℕ). n < 65536) rising _ _ (λ e. f.up) (λ e. f.down)

  -- a count of one tick began where the command stood; one of more goes on
  moved_left : (m : Motion) (from to : ℤ) (rising : Bool) → SFits w16 from → SFits w16 to → SFits w16 (moved s m from to rising (in_use s rising)).command
      → Left m (moved s m from to rising (in_use s rising))
  unfolding moved advanced
  moved_left m from to rising g h =
      let ramp = in_use s rising in
      let k = counted s m rising ramp in
      chosen (λ (n : Motion). SFits w16 n.command → Left m n) _ _ _ (λ e there. rests_left m h)
      (λ e there.
      record {
        command = there;
        none = λ z. absurd (omega (arith, at_least s m rising ramp));
        one = λ z. record { start = subst (SFits w16) (sym (begun_one m k from z)) g; fv1 = f.fv1; fv2 = f.fv2; used = in_use_short rising };
        more = λ l.
            let on = more_is_on s m rising ramp l in
            record {
              some = on.some;
              start = begun_more m k from (λ z. omega arith);
              rising = sym on.rising;
              fv1 = sym on.fv1;
              fv2 = sym on.fv2;
              used = sym on.used;
            };
      })

  if_it_fits : (v : ℤ) (m : Motion) → SFits w16 (ramped s v m).command → Left m (ramped s v m)
  unfolding ramped
  if_it_fits v m =
      let P : Motion → Type 0 = λ n. SFits w16 n.command → Left m n in
      let aim = inside (target_within s f.order v) in
      chosen P _ _ _ (λ e there. rests_left m aim) (λ e. chosen P _ _ _ (λ g there. rests_left m aim)
      (λ g there. moved_left m _ _ _ (inside (limited_within s f.order m.command)) aim there))

  ramped_left : (v : ℤ) (m : Motion) → Left m (ramped s v m)
  ramped_left v m = if_it_fits v m (inside (ramped_within s f.order v m))

  fault_fits : {last : ℤ} → SFits w16 last → SFits w16 (fault_of s last)
  unfolding fault_of
  fault_fits l = chosen (SFits w16) (eqb s.fault_mode 0) _ _ (λ e. l) (λ e. f.fault)

  pub driven_left : (c e o : Signal) (m : Motion) → SFits w16 m.command → Left m (driven s c e o m)
  unfolding driven by_rule
  driven_left c e o m last =
      let P = Left m in
      let zero = rests_left m none_fits in
      let fault : P (rests (fault_of s m.command)) = rests_left m (fault_fits last) in
      chosen P _ _ _ (λ e. zero) (λ e. chosen P _ _ _ (λ e. fault) (λ e. chosen P _ _ _ (λ e. rests_left m f.override) (λ e. chosen P _ _ _ (λ e. fault)
      (λ e. chosen P _ _ _ (λ e. fault) (λ e. chosen P _ _ _ (λ e. zero) (λ e. ramped_left (whole c) m))))))

-- ---- it is read as it was laid down

flag_back : (b : Bool) → not (eqb (first b 1 0 % 0x100) 0) ≡ b
unfolding first
flag_back true = refl
flag_back false = refl

-- words laid down one after the other, each at a place of its own
module _ (u : List ℕ) (at word : ℕ → ℕ) (n : ℕ) (apart : (i j : ℕ) → i < j → j < n → at i ≡ at j → ⊥) (room : (i : ℕ) → i < n → at i < length u) where
  laid : ℕ → List ℕ
  laid zero = u
  laid (suc j) = set (laid j) (at j) (word j)

  laid_long : (j : ℕ) → length (laid j) ≡ length u
  unfolding laid
  laid_long zero = refl
  laid_long (suc j) = length-set (laid j) (at j) (word j) ∙ laid_long j

  laid_word : (j : ℕ) → j ≤ n → (i : ℕ) → i < j → get_or (laid j) (at i) 0 ≡ word i
  unfolding laid
  laid_word zero l i h = absurd (omega arith)
  laid_word (suc j) l i h =
      ⊎_elim
      (λ e. let is : i ≡ j = omega arith in let in-it : at j < length (laid j) = omega (arith, room j (omega arith), laid_long j) in
      rw is (get_or-set_same (laid j) (at j) (word j) 0 in-it))
      (λ g. get_or-set_other (laid j) (at j) (at i) (word j) 0 (apart i j (omega arith) (omega arith)) ∙ laid_word j (omega arith) i (omega arith))
      (eq-or-lt_of_le h)

module _ (u : List ℕ) (k : ℕ) (m : Motion) (h : k < 4) (size : length u ≡ unit_size) where
  row : k + 1 - 1 ≡ k
  row = omega arith

  -- the five behind the count
  at : ℕ → ℕ
  at i = ramp_word k (suc i)

  word : ℕ → ℕ
  word i = get_or (pattern16 m.start ∷ first m.rising 1 0 ∷ pattern16 m.fv1 ∷ pattern16 m.fv2 ∷ m.used ∷ []) i 0

  apart : (i j : ℕ) → i < j → j < 5 → at i ≡ at j → ⊥
  unfolding at
  apart i j l g e = omega arith

  room : (i : ℕ) → i < 5 → at i < length u
  unfolding ramps_at unit_size at
  room i g = omega arith

  is_noted : noted u (k + 1) m ≡ laid u at word 5 apart room 5
  unfolding noted ramps_at ramp_start_at ramp_rising_at ramp_fv1_at ramp_fv2_at ramp_used_at laid at word
  is_noted = rw row

  base : List ℕ
  base = first (eqb m.count 1) (noted u (k + 1) m) u

  base_long : length base ≡ length u
  unfolding base
  base_long = chosen (λ (v : List ℕ). length v ≡ length u) _ _ _ (λ e. ap length is_noted ∙ laid_long u at word 5 apart room 5) (λ e. refl)

  published : List ℕ
  published = entry.publish base 0x7330 (k + 1) (pattern16 m.command)

  published_long : length published ≡ length u
  unfolding published entry.publish
  published_long = length-set base (slot_of 0x7330 (k + 1)) (pattern16 m.command) ∙ base_long

  after : List ℕ
  after = set published (ramp_count_at + k) m.count

  is_after : remember u (k + 1) m ≡ after
  unfolding after published base remember
  is_after = rw row

  command_back : get_or after (slot_of 0x7330 (k + 1)) 0 ≡ pattern16 m.command
  unfolding after published entry.publish has ramp_count_at unit_size
  command_back =
      get_or-set_other published (ramp_count_at + k) (slot_of 0x7330 (k + 1)) m.count 0 (λ e. omega (arith, array 0x7330 refl k h))
      ∙ get_or-set_same base (slot_of 0x7330 (k + 1)) (pattern16 m.command) 0 (omega (arith, array 0x7330 refl k h, base_long))

  count_back : get_or after (ramp_count_at + k) 0 ≡ m.count
  unfolding after ramp_count_at unit_size
  count_back = get_or-set_same published (ramp_count_at + k) m.count 0 (omega (arith, published_long))

  five_back : (i : ℕ) → i < 5 → get_or after (at i) 0 ≡ get_or base (at i) 0
  unfolding after published entry.publish at has ramp_count_at
  five_back i g =
      get_or-set_other published (ramp_count_at + k) (at i) m.count 0 (λ e. omega arith)
      ∙ get_or-set_other base (slot_of 0x7330 (k + 1)) (at i) (pattern16 m.command) 0 (λ e. omega (arith, array 0x7330 refl k h))

  -- what is read, by the words under the count
  read : motion after (k + 1) ≡ record {
    command = signed16 (pattern16 m.command);
    count = m.count;
    start = first (eqb m.count 0) (pos 0) (signed16 (get_or base (at 0) 0));
    rising = first (eqb m.count 0) false (not (eqb (get_or base (at 1) 0 % 0x100) 0));
    fv1 = first (eqb m.count 0) (pos 0) (signed16 (get_or base (at 2) 0));
    fv2 = first (eqb m.count 0) (pos 0) (signed16 (get_or base (at 3) 0));
    used = first (eqb m.count 0) 0 (get_or base (at 4) 0 % 0x10000);
  }
  unfolding motion entry.whole entry.entry ramp_count_at ramp_start_at ramp_rising_at ramp_fv1_at ramp_fv2_at ramp_used_at at
  read = rw (row, command_back, count_back, five_back 0 (lit< tt), five_back 1 (lit< tt), five_back 2 (lit< tt), five_back 3 (lit< tt), five_back 4 (lit< tt))

  module _ (left : Left (motion u (k + 1)) m) where
    abbrev old : Motion
    old = motion u (k + 1)

    zero_back : m.count ≡ 0 → motion after (k + 1) ≡ m
    unfolding rests first
    zero_back e = read ∙ rw (pattern_read m.command left.command, left.none e)

    one_back : m.count ≡ 1 → motion after (k + 1) ≡ m
    unfolding base word first
    one_back e = let f = left.one e in
        let six = laid_word u at word 5 apart room 5 (lit≤ tt) in
        read
        ∙ rw (
          pattern_read m.command left.command,
          ne_eqb m.count 0 (λ z. omega arith),
          eq-eqb m.count 1 e,
          is_noted,
          six 0 (lit< tt),
          six 1 (lit< tt),
          six 2 (lit< tt),
          six 3 (lit< tt),
          six 4 (lit< tt),
          pattern_read m.start f.start,
          flag_back m.rising,
          pattern_read m.fv1 f.fv1,
          pattern_read m.fv2 f.fv2,
          mod-eq_of_lt f.used,
        )

    more_back : 2 ≤ m.count → motion after (k + 1) ≡ m
    unfolding base at first ramp_start_at ramp_rising_at ramp_fv1_at ramp_fv2_at ramp_used_at
    more_back l = let g = left.more l in
        let some : get_or u (ramp_count_at + k) 0 ≡ 0 → ⊥ = λ z. g.some (count_is u k ∙ z) in
        read
        ∙ rw (
          pattern_read m.command left.command,
          ne_eqb m.count 0 (λ z. omega arith),
          ne_eqb m.count 1 (λ z. omega arith),
          ← start_is u k some,
          ← rising_is u k some,
          ← fv1_is u k some,
          ← fv2_is u k some,
          ← used_is u k some,
          ← g.start,
          ← g.rising,
          ← g.fv1,
          ← g.fv2,
          ← g.used,
        )

    pub motion_back : motion (remember u (k + 1) m) (k + 1) ≡ m
    motion_back = ap (λ (v : List ℕ). motion v (k + 1)) is_after ∙ by (eqb m.count 0) (eqb m.count 1) refl refl
      where
        by : (none one : Bool) → eqb m.count 0 ≡ none → eqb m.count 1 ≡ one → motion after (k + 1) ≡ m
        by true one e f = zero_back (eqb-true m.count 0 e)
        by false true e f = one_back (eqb-true m.count 1 f)
        by false false e f = more_back (two (eqb-false m.count 0 e) (eqb-false m.count 1 f))
          where
            two : (m.count ≡ 0 → ⊥) → (m.count ≡ 1 → ⊥) → 2 ≤ m.count
            two a b = omega arith
