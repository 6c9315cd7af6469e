-- The commands after a tick, of the unit itself.
-- Assumes nothing.
use Prim.Native.Nat.{ℕ, ◌+◌, ◌-◌, ◌<◌, ◌≤◌}
use mathlib.Core.Bool.{true}
use mathlib.Core.List.{List}
use mathlib.Core.Path.{◌≡◌, refl, sym, ap, ◌∙◌, subst}
use native.Mathlib.Nat.{mod-lt}
use native.Mathlib.Omega.{arith}
use lib.Dec.{lit<, lit≤}
use lib.IntN.{ℤ}
use lib.Signed.{◌<ℤ◌}
use lib.ListN.{length, get_or, set}
use mir.Syntax.{w16}
use mir.Val.{SFits}
use Rattle.numbers.specs.Order.{below}
use Rattle.numbers.proofs.Orders.{below_is_lt}
use Rattle.dictionary.specs.Names.{slot_of, received_to, writable}
use Rattle.dictionary.specs.Unit.{ramps_at, ramp_count_at, ramp_start_at, ramp_rising_at, ramp_fv1_at, ramp_fv2_at, ramp_used_at, unit_size, unticked}
use Rattle.dictionary.proofs.Unticked.{ramps_before, mark_behind, forgets_only}
use Rattle.dictionary.proofs.naming.NameLaws.{counted}
use Rattle.output.specs.Output.{driven}
use Rattle.output.specs.Commanded.{Within, Names, SomeRule, Rules1To6, Rule7}
use Rattle.output.specs.declared.Motion.{Motion}
use Rattle.output.proofs.MotionLaws.{Left, Settled, driven_left, ramp_word, motion_back}
use Rattle.output.proofs.OutputLaws.{some_rule, rules_1_to_6}
use Rattle.output.proofs.Rule7.{rule_7}
use Rattle.unit.specs.Entry.{entry, whole, byte, time}
use Rattle.unit.proofs.Slots.{stretch, has, array}
use Rattle.unit.specs.Sources.{sourced}
use Rattle.output.specs.Outputs.{settings, motion, driven_of, output_turn}
use Rattle.controller.specs.Tick.{ticked}
use Rattle.controller.specs.Commands.{control, enable, override, rule_for, Commanded}
use Rattle.controller.specs.TickLaws.{before}
use Rattle.controller.specs.Turns.{at_turn}
use Rattle.controller.proofs.Kept.{Publishes, stands, register_first, set_keeps}
use Rattle.controller.proofs.Numbers.{word_fits}
use Rattle.controller.proofs.Seen.{alike_after, outputs_see}
use Rattle.controller.proofs.TickLaws.{words_kept, tame, first_word}
use Rattle.controller.proofs.Turns.{ramp, shown_low, shown, last_shown, remembered, last_remembered, output_turn_lem}

-- ---- the configuration of an output, where the words of the configuration are the same

module _ (u v : List ℕ) (alike : (slot : ℕ) → slot < received_to → get_or u slot 0 ≡ get_or v slot 0) (k : ℕ) (h : k < 4) where
  word : (index : ℕ) {slot : ℕ} → stretch index 1 4 slot ≡ has index → slot + 4 ≤ 611 → get_or u (slot_of index (k + 1)) 0 ≡ get_or v (slot_of index (k + 1)) 0
  word index e l = alike (slot_of index (k + 1)) (omega (arith, array index e k h, counted))

  same_settings : settings u (k + 1) ≡ settings v (k + 1)
  unfolding settings whole byte time entry has
  same_settings =
      rw (
        word 0x2352 refl (lit≤ tt),
        word 0x2362 refl (lit≤ tt),
        word 0x7320 refl (lit≤ tt),
        word 0x7322 refl (lit≤ tt),
        word 0x7321 refl (lit≤ tt),
        word 0x7323 refl (lit≤ tt),
        word 0x6340 refl (lit≤ tt),
        word 0x7341 refl (lit≤ tt),
        word 0x2300 refl (lit≤ tt),
        word 0x2330 refl (lit≤ tt),
        word 0x2331 refl (lit≤ tt),
      )

  module _ (seen : (source number : ℕ) → sourced u source number ≡ sourced v source number) where
    same_signal : (source number : ℕ) {s n : ℕ} → stretch source 1 4 s ≡ has source → s + 4 ≤ 611 → stretch number 1 4 n ≡ has number → n + 4 ≤ 611
        → sourced u (byte u source (k + 1)) (byte u number (k + 1)) ≡ sourced v (byte v source (k + 1)) (byte v number (k + 1))
    unfolding byte entry
    same_signal source number e l f m = rw (word source e l, word number f m) (seen _ _)

    same_drive : (m : Motion) → motion u (k + 1) ≡ m → driven_of u (k + 1) ≡ driven (settings v (k + 1)) (control v (k + 1)) (enable v (k + 1)) (override v (k + 1)) m
    unfolding driven_of control enable override has
    same_drive m e =
        rw (same_settings, same_signal 0x2340 0x2341 refl (lit≤ tt) refl (lit≤ tt), same_signal 0x2350 0x2351 refl (lit≤ tt) refl (lit≤ tt), same_signal 0x2360 0x2361 refl (lit≤ tt) refl (lit≤ tt), e)

-- ---- 7330h and the words of the ramp, which only its own turn sets

-- a motion is as it was where its seven words are
pub same_motion : (u v : List ℕ) (k : ℕ) → entry v 0x7330 (k + 1) ≡ entry u 0x7330 (k + 1) → ((w : ℕ) → w < 6 → get_or v (ramp_word k w) 0 ≡ get_or u (ramp_word k w) 0) → motion v (k + 1) ≡ motion u (k + 1)
unfolding motion whole ramps_at ramp_count_at ramp_start_at ramp_rising_at ramp_fv1_at ramp_fv2_at ramp_used_at
same_motion u v k e words =
    let i : k + 1 - 1 ≡ k = omega arith in
    rw (i, e, words 0 (lit< tt), words 1 (lit< tt), words 2 (lit< tt), words 3 (lit< tt), words 4 (lit< tt), words 5 (lit< tt))

-- no write of what can be written touches them
pub motion_unwritten : (unit : List ℕ) (slot word k : ℕ) → slot < writable → k < 4 → motion (set unit slot word) (k + 1) ≡ motion unit (k + 1)
unfolding entry ramps_at
motion_unwritten unit slot word k l h =
    same_motion unit (set unit slot word) k
    (set_keeps {slot = slot_of 0x7330 (k + 1)} unit slot word (λ e. omega (arith, stands (Publishes.commanded k h), register_first))).word
    (λ w g. (set_keeps {slot = ramp_word k w} unit slot word (λ e. omega (arith, counted))).word)

-- nor does forgetting the tick
pub motion_forgotten : (unit : List ℕ) (k : ℕ) → k < 4 → motion (unticked unit) (k + 1) ≡ motion unit (k + 1)
unfolding entry
motion_forgotten unit k h =
    same_motion unit (unticked unit) k
    (forgets_only unit (slot_of 0x7330 (k + 1)) (λ e. omega (arith, shown_low (Publishes.commanded k h), mark_behind)))
    (λ w g. forgets_only unit (ramp_word k w) (λ e. omega (arith, ramps_before, mark_behind)))

module _ (samples : List ℤ) (unit : List ℕ) (size : length unit ≡ unit_size) (k : ℕ) (h : k < 4) where
  last_motion : motion (at_turn samples unit (16 + k)) (k + 1) ≡ motion unit (k + 1)
  unfolding entry
  last_motion = same_motion _ _ k (last_shown samples unit (Publishes.commanded k h) (omega arith)) (λ w g. last_remembered samples unit (ramp k w h g) (omega arith))

  own_motion : let u = at_turn samples unit (16 + k) in motion (ticked samples unit) (k + 1) ≡ motion (output_turn (k + 1) u) (k + 1)
  unfolding entry
  own_motion = let u = at_turn samples unit (16 + k) in
      rw (← output_turn_lem samples k h u)
      (same_motion _ _ k (shown samples unit (Publishes.commanded k h) (omega arith)) (λ w g. remembered samples unit (ramp k w h g) (omega arith)))

  given : let u = at_turn samples unit (16 + k) in Left (motion u (k + 1)) (driven_of u (k + 1)) → motion (ticked samples unit) (k + 1) ≡ driven_of u (k + 1)
  unfolding output_turn
  given left = let u = at_turn samples unit (16 + k) in
      own_motion ∙ motion_back u k (driven_of u (k + 1)) h ((tame samples unit (16 + k) (omega arith) 0 first_word).size ∙ size) left

  -- the command is what the output's rule gives by the unit after the tick
  module _ (order : below (whole unit 0x7321 (k + 1)) (whole unit 0x7323 (k + 1)) ≡ true) where
    ordered : whole (ticked samples unit) 0x7321 (k + 1) <ℤ whole (ticked samples unit) 0x7323 (k + 1)
    unfolding whole entry has
    ordered =
        let same : (slot : ℕ) → slot < received_to → get_or (ticked samples unit) slot 0 ≡ get_or unit slot 0 = λ slot l. words_kept samples unit slot (before l) in
        rw (word (ticked samples unit) unit same k h 0x7321 refl (lit≤ tt), word (ticked samples unit) unit same k h 0x7323 refl (lit≤ tt)) (below_is_lt _ _ order)

    settled : Settled (settings (ticked samples unit) (k + 1))
    unfolding settings whole entry time
    settled = record {
      order = ordered;
      fv1 = word_fits _;
      fv2 = word_fits _;
      fault = word_fits _;
      override = word_fits _;
      up = mod-lt _ (lit< tt);
      down = mod-lt _ (lit< tt);
    }

    pub by_rule_lem : let after = ticked samples unit in
        motion after (k + 1) ≡ driven (settings after (k + 1)) (control after (k + 1)) (enable after (k + 1)) (override after (k + 1)) (motion unit (k + 1))
    unfolding motion whole entry
    by_rule_lem =
        let after = ticked samples unit in
        let r : 16 + k ≤ 20 = omega arith in
        let is = same_drive (at_turn samples unit (16 + k)) after (λ slot l. alike_after samples unit (16 + k) r slot (before l)) k h
        (outputs_see samples unit (16 + k) r (omega arith)) (motion unit (k + 1)) last_motion in
        let left = driven_left (settings after (k + 1)) settled (control after (k + 1)) (enable after (k + 1)) (override after (k + 1)) (motion unit (k + 1)) (last_fits unit) in
        given (subst (λ (m : Motion). Left m (driven_of (at_turn samples unit (16 + k)) (k + 1))) (sym last_motion) (subst (Left (motion unit (k + 1))) (sym is) left)) ∙ is
      where
        last_fits : (u : List ℕ) → SFits w16 (motion u (k + 1)).command
        last_fits u = word_fits _

    pub commanded : Commanded unit (ticked samples unit) (k + 1)
    unfolding rule_for settings motion SomeRule Rules1To6 Rule7
    commanded =
        let after = ticked samples unit in
        let s = settings after (k + 1) in
        let c = control after (k + 1) in
        let e = enable after (k + 1) in
        let o = override after (k + 1) in
        let m = motion unit (k + 1) in
        let is = ap (λ (n : Motion). n.command) by_rule_lem in
        record {
          moves = by_rule_lem;
          some = some_rule s c e o;
          named = subst (Names s m.command (rule_for after (k + 1))) (sym is) (rules_1_to_6 s c e o m);
          within = λ r. subst (Within s.fv1 s.fv2) (sym is) (rule_7 s c e o m ordered r);
        }
