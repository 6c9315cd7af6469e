-- REAL32 to INTEGER16: each return is one of the definition's five cases.
-- Assumes nothing.
use Prim.Native.Nat.{ℕ, ◌*◌, ◌≤◌}
use mathlib.Core.Path.{ap, sym, ◌∙◌}
use native.Mathlib.Omega.{arith}
use borrow.Author.Rules.{rules}
use lib.Dec.{T}
use lib.IntN.{pos, neg_ℤ}
use lib.Ieee.{of_bits, neg}
use lib.Ieee.Positive.{positive, num, den, den_pos}
use mir.Facts.{to_z-of_z}
use Rattle.numbers.proofs.SignedLaws.{small, below_zero}
use Rattle.numbers.proofs.rounding.RealCases.{size_most, top, bottom, is_positive, at_positive, is_negative, at_negative, at_zero}
use Rattle.numbers.proofs.rounding.nearest.Goals as goal
use Rattle.numbers.proofs.rounding.nearest.Goals.{After-size, After-size-then-v-4, Then-v-3, Then-v-4}
use mir.Syntax.{w16}

pub returns-then-v : goal.returns-then-v
unfolding of_bits
returns-then-v c = sym (top c.args.v c.if-v.true)

pub returns-then-v-2 : goal.returns-then-v-2
unfolding of_bits neg
returns-then-v-2 c = sym (bottom c.args.v c.if-v-2.true)

upper : (c : Then-v-3) → T (positive c.before.before.before.args.v) × (num c.before.before.before.args.v ≤ 32767 * den c.before.before.before.args.v)
unfolding of_bits
upper c = is_positive c.before.before.before.args.v c.before.before.if-v.false c.if-v-3.true

pub size-requires : goal.size-requires
size-requires c = ((upper (goal.at.size-requires c).Then-v-3).0, omega (arith, (upper (goal.at.size-requires c).Then-v-3).1))

upper_size : (c : After-size) → c.size.result ≤ 32767
upper_size c =
    rw c.size.ensures (size_most 32767 (num c.before.before.before.before.args.v) (den c.before.before.before.before.args.v) (den_pos c.before.before.before.before.args.v) (upper c.before).1)

pub returns-then-v-3 : goal.returns-then-v-3
returns-then-v-3 c =
    to_z-of_z {w = w16} (search rules) ∙ c.signed.ensures ∙ small c.size.result (omega (arith, upper_size (goal.at.returns-then-v-3 c).After-size)) ∙ ap pos c.size.ensures
    ∙ sym (at_positive c.args.v (upper (goal.at.returns-then-v-3 c).Then-v-3).0 (upper (goal.at.returns-then-v-3 c).Then-v-3).1)

lower_part : (c : Then-v-4) → T (positive (neg c.before.before.before.before.args.v)) × (num (neg c.before.before.before.before.args.v) ≤ 32768 * den (neg c.before.before.before.before.args.v))
unfolding of_bits neg
lower_part c = is_negative c.before.before.before.before.args.v c.before.before.if-v-2.false c.if-v-4.true

pub size-requires-then-v-4 : goal.size-requires-then-v-4
size-requires-then-v-4 c = lower_part (goal.at.size-requires-then-v-4 c).Then-v-4

lower_size : (c : After-size-then-v-4) → c.size-then-v-4.result ≤ 32768
lower_size c =
    rw c.size-then-v-4.ensures (size_most 32768 (num (neg c.before.before.before.before.before.args.v)) (den (neg c.before.before.before.before.before.args.v)) (den_pos (neg c.before.before.before.before.before.args.v)) (lower_part c.before).1)

pub overflow_sub-size : goal.overflow_sub-size
overflow_sub-size c = omega (arith, lower_size (goal.at.overflow_sub-size c).After-size-then-v-4)

pub returns-then-v-4 : goal.returns-then-v-4
returns-then-v-4 c =
    to_z-of_z {w = w16} (search rules) ∙ c.signed-then-v-4.ensures ∙ below_zero c.size-then-v-4.result (lower_size (goal.at.returns-then-v-4 c).After-size-then-v-4)
    ∙ ap (λ (q : ℕ). neg_ℤ (pos q)) c.size-then-v-4.ensures
    ∙ sym (at_negative c.args.v (lower_part (goal.at.returns-then-v-4 c).Then-v-4).0 (lower_part (goal.at.returns-then-v-4 c).Then-v-4).1)

pub returns : goal.returns
unfolding of_bits
returns c = sym (at_zero c.args.v c.if-v-3.false c.if-v-4.false)
