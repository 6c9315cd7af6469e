-- Laws of the output: rules 1 to 6 give the value they name; what is limited, the target and a ramp's tick lie between the two configured limits (`Rule7` goes on).
-- Assumes nothing.
use Prim.Native.Nat.{ℕ, ◌*◌, ◌<◌, ◌≤◌}
use mathlib.Core.Bool.{Bool}
use mathlib.Core.Path.{◌≡◌, ap}
use native.Mathlib.Nat.{div-le_of_le-mul, mul-le-mul_right, mul_comm}
use native.Mathlib.Omega.{arith}
use lib.IntN.{ℤ, pos, ◌+ℤ◌, ◌-ℤ◌}
use lib.Signed.{◌≤ℤ◌, ◌<ℤ◌}
use Rattle.numbers.specs.Choice.{first}
use Rattle.numbers.specs.Limit.{limit_whole}
use Rattle.numbers.specs.Order.{below}
use Rattle.numbers.proofs.limits.LimitLaws.{limit_from, limit_to}
use Rattle.numbers.proofs.Orders.{lt_is_below, not_below_is_le}
use Rattle.numbers.proofs.whole_line.LineLaws.{from_first, to_second}
use Rattle.numbers.proofs.Choices.{chosen}
use Rattle.output.specs.Output.{rule, rule_of}
use Rattle.output.specs.Commanded.{Within, SomeRule, Rules1To6}
use Rattle.output.specs.Output.{way, higher, lower, rise, fall, reached, advanced, moved, target, ramped, rests, by_rule, driven}
use Rattle.signals.specs.Signal.{whole}
use Rattle.signals.specs.declared.signal.Signal.{Signal}
use Rattle.output.specs.declared.Motion.{Motion}
use Rattle.output.specs.declared.Settings.{Settings}
use Rattle.numbers.proofs.OrderLaws.{below_le, ≤ℤ_trans}

-- a count that is not longer than the ramp moves by no more than the width
pub way_most : (k width ramp : ℕ) → 0 < ramp → k ≤ ramp → way k width ramp ≤ width
unfolding way
way_most k width ramp h l =
    let m : k * width ≤ ramp * width = mul-le-mul_right width l in
    div-le_of_le-mul ramp (omega (arith, mul_comm ramp width))

-- ---- a move toward a number between two limits, from another between them, ends between them, wherever it began
module _ {low high a b : ℤ} (wa : Within low high a) (wb : Within low high b) where
  abbrev P : ℤ → Type 0
  P = Within low high

  risen : (start : ℤ) (n : ℕ) → P (rise start n a b)
  unfolding rise higher
  risen start n =
      chosen P (below (start +ℤ pos n) b) _ b
      (λ e. chosen P (below a (start +ℤ pos n)) (start +ℤ pos n) a
      (λ g. record { from = ≤ℤ_trans wa.from (below_le a (start +ℤ pos n) g); to = ≤ℤ_trans (below_le (start +ℤ pos n) b e) wb.to }) (λ g. wa)) (λ e. wb)

  fallen : (start : ℤ) (n : ℕ) → P (fall start n a b)
  unfolding fall lower
  fallen start n =
      chosen P (below b (start -ℤ pos n)) _ b
      (λ e. chosen P (below a (start -ℤ pos n)) a (start -ℤ pos n) (λ g. wa)
      (λ g. record { from = ≤ℤ_trans wb.from (below_le b (start -ℤ pos n) e); to = ≤ℤ_trans (not_below_is_le a (start -ℤ pos n) g) wa.to })) (λ e. wb)

  reaches : (rising : Bool) (start : ℤ) (n : ℕ) → P (reached rising start n a b)
  unfolding reached
  reaches rising start n = chosen P rising _ _ (λ e. risen start n) (λ e. fallen start n)

  advances : (s : Settings) (k : ℕ) (start : ℤ) (rising : Bool) (ramp : ℕ) → P (advanced s k start a b rising ramp).command
  unfolding advanced rests
  advances s k start rising ramp = chosen (λ (m : Motion). P m.command) _ _ _ (λ e. wb) (λ e. reaches rising start _)

-- ---- "So under rule 7 the command stays between the two configured limits, and rules 1 to 6 name their value."
module _ (s : Settings) (control enable over : Signal) (m : Motion) where
  pub by : {n : ℕ} → rule_of s control enable over ≡ n → (driven s control enable over m).command ≡ (by_rule n s (whole control) m).command
  unfolding driven
  by e = ap (λ (n : ℕ). (by_rule n s (whole control) m).command) e

pub rules_1_to_6 : Rules1To6
unfolding Rules1To6 by_rule rests first
rules_1_to_6 s control enable over m = record {
  off = λ e. by s control enable over m e;
  enable_error = λ e. by s control enable over m e;
  overridden = λ e. by s control enable over m e;
  override_error = λ e. by s control enable over m e;
  control_error = λ e. by s control enable over m e;
  no_control = λ e. by s control enable over m e;
}

pub some_rule : SomeRule
unfolding SomeRule rule_of rule
some_rule s control enable over =
    let one_of : ℕ → Type 0 = λ n. (1 ≤ n) × (n ≤ 7) in
    chosen one_of _ 1 _ (λ e. omega arith) (λ e. chosen one_of _ 2 _ (λ e. omega arith) (λ e. chosen one_of _ 3 _ (λ e. omega arith)
    (λ e. chosen one_of _ 4 _ (λ e. omega arith) (λ e. chosen one_of _ 5 _ (λ e. omega arith) (λ e. chosen one_of _ 6 _ (λ e. omega arith) (λ e. omega arith))))))

-- what is limited, and the target, lie between the limits
module _ (s : Settings) (order : s.fv1 <ℤ s.fv2) where
  le : s.fv1 ≤ℤ s.fv2
  le = below_le s.fv1 s.fv2 (lt_is_below order)

  pub limited_within : (z : ℤ) → Within s.fv1 s.fv2 (limit_whole z s.fv1 s.fv2)
  limited_within z = record { from = limit_from z s.fv1 s.fv2 le; to = limit_to z s.fv1 s.fv2 le }

  pub target_within : (v : ℤ) → Within s.fv1 s.fv2 (target s v)
  unfolding target
  target_within v = let x = limit_whole v s.pv1 s.pv2 in
      record { from = from_first s.pv1 s.fv1 s.pv2 s.fv2 le x; to = to_second s.pv1 s.fv1 s.pv2 s.fv2 le x }

  -- so a tick of the ramp ends between them
  pub ramped_within : (v : ℤ) (m : Motion) → Within s.fv1 s.fv2 (ramped s v m).command
  unfolding ramped moved rests
  ramped_within v m =
      let P : Motion → Type 0 = λ n. Within s.fv1 s.fv2 n.command in
      let aim = target_within v in
      chosen P _ _ _ (λ e. aim) (λ e. chosen P _ _ _ (λ g. aim) (λ g. advances (limited_within m.command) aim s _ _ _ _))
