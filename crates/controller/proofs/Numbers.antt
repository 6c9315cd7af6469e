-- No block makes a NaN: the signal that a block makes is one that two words keep.
-- Assumes nothing.
use Prim.Native.Nat.{ℕ, zero, suc, ◌+◌, ◌-◌, ◌%◌, ◌<◌, ◌≤◌}
use mathlib.Core.Bool.{Bool, true, false, ◌&&◌}
use mathlib.Core.List.{List}
use mathlib.Core.Path.{◌≡◌, refl, sym, ◌∙◌}
use native.Mathlib.Nat.{zero-mul}
use native.Mathlib.Omega.{arith}
use borrow.Author.Tests.{ltb-true, ltb-false}
use lib.Dec.{T, eqb, ltb, lit<, lit≤}
use lib.IntN.{ℤ, pos, neg_ℤ}
use lib.Ieee.{Float, nan, inf, fin, binary32, fits, is_nan, nan_bits, of_bits, of_int, add, mul, sub, div, neg, eq, lt, up, down}
use lib.Ieee.Bits.{of_bits-fits, nan_bits_is}
use lib.Ieee.Fits.{add-fits, of_int-fits}
use lib.Ieee.Scale.{finite}
use mir.Syntax.{w16}
use mir.Val.{SFits}
use Rattle.numbers.specs.Choice.{first}
use Rattle.numbers.specs.Order.{below}
use Rattle.numbers.specs.Signed.{twos, signed16}
use Rattle.numbers.proofs.Choices.{chosen}
use Rattle.numbers.proofs.Orders.{not_below_is_le}
use Rattle.numbers.proofs.OrderLaws.{below_le, between_fits}
use Rattle.numbers.specs.Limit.{limit_real}
use Rattle.numbers.specs.Line.{line_at}
use Rattle.numbers.proofs.whole_line.LineLaws.{from_first, to_second, from_second, to_first}
use Rattle.signals.specs.Signal.{as_real}
use Rattle.signals.specs.declared.signal.Signal.{Signal}
use Rattle.signals.specs.declared.signal.Signal.TheVariants.{Whole, Real, Error, Absent}
use Rattle.signals.specs.Words.{real_of, of_words}
use Rattle.signals.proofs.keeping.WordLaws.{Kept, whole, real, error, absent}
use Rattle.math.specs.Math as math
use Rattle.math.specs.Math.{Running, at, broken, scaled, operated, operated_on, joins, joined, starts, started, ended, combined}
use Rattle.math.specs.declared.Operand.{Operand}
use Rattle.math.specs.declared.Ends.{Ends}
use Rattle.input.specs.Input.{signal_of, process, sensed}
use Rattle.input.specs.declared.Settings.{Settings}
use Rattle.input.specs.declared.Memory.{Memory}
use Rattle.table.specs.Table.{value, place, used, interval, curve, reaches, looked_up}
use Rattle.numbers.specs.Nearest.{nearest16}
use Rattle.unit.specs.Entry as entry
use Rattle.unit.specs.Held.{held, at_row}
use Rattle.unit.specs.Sources.{among, sourced}
use Rattle.input.specs.Inputs as inputs
use Rattle.math.specs.Maths.{of_math, operand, operator, ends, math_signal}
use Rattle.table.specs.Tables.{table_signal}
use Rattle.controller.proofs.Reals.{no, Number, Divisor, near_finite, finite_number, added, taken, multiplied, divided, limited_near, none, minus_one, product_near, whole_finite, hundredth_near, whole_divisor}

-- ---- whole numbers

fits_below : (n : ℕ) → n ≤ 0x8000 → SFits w16 (neg_ℤ (pos n))
fits_below zero h = record { sfits = omega arith }
fits_below (suc n) h = record { sfits = omega arith }

pub word_fits : (word : ℕ) → SFits w16 (signed16 word)
unfolding signed16 twos
word_fits word =
    let p = word % 0x10000 in
    chosen (SFits w16) (ltb p 0x8000) (pos p) (neg_ℤ (pos (0x10000 - p)))
    (λ e. record { sfits = ltb-true p 0x8000 e })
    (λ e. fits_below (0x10000 - p) (omega (arith, ltb-false p 0x8000 e)))

line_fits : (x1 y1 x2 y2 x : ℤ) → SFits w16 y1 → SFits w16 y2 → SFits w16 (line_at x1 y1 x2 y2 x)
line_fits x1 y1 x2 y2 x f g = by (below y2 y1) refl where
  by : (b : Bool) → below y2 y1 ≡ b → SFits w16 (line_at x1 y1 x2 y2 x)
  by true e = let o = below_le y2 y1 e in between_fits y2 _ y1 g f (from_second x1 y1 x2 y2 o x) (to_first x1 y1 x2 y2 o x)
  by false e = let o = not_below_is_le y2 y1 e in between_fits y1 _ y2 f g (from_first x1 y1 x2 y2 o x) (to_second x1 y1 x2 y2 o x)

-- ---- what a pair (source, number) names

bits_kept : (word : ℕ) → Kept (Real (real_of word))
unfolding real_of is_nan of_bits fits
bits_kept word =
    chosen (λ (x : Float). Kept (Real x)) (nan_bits binary32 word) (of_bits binary32 0) (of_bits binary32 word)
    (λ e. real tt refl) (λ e. real (of_bits-fits binary32 word) (sym (nan_bits_is binary32 word) ∙ e))

-- a choice of two that are kept
either : (b : Bool) {s t : Signal} → Kept s → Kept t → Kept (first b s t)
unfolding first
either true p q = p
either false p q = q

words_kept : (kind number : ℕ) → Kept (of_words kind number)
unfolding of_words
words_kept kind number = either (eqb kind 1) (whole (word_fits number)) (either (eqb kind 2) (bits_kept number) (either (eqb kind 3) error absent))

pub held_kept : (unit : List ℕ) (kind n : ℕ) → Kept (held unit kind n)
unfolding held at_row
held_kept unit kind n = words_kept _ _

pub sourced_kept : (unit : List ℕ) (source number : ℕ) → Kept (sourced unit source number)
unfolding sourced among entry.whole entry.real
sourced_kept unit source number =
    either (eqb source 1) (some 12 (whole (word_fits _)))
    (either (eqb source 2) (some 4 (held_kept unit 0 number))
    (either (eqb source 3) (some 6 (held_kept unit 8 number))
    (either (eqb source 4) (some 2 (held_kept unit 14 number))
    (either (eqb source 5) (some 4 (held_kept unit 4 number))
    (either (eqb source 6) (some 15 (bits_kept _)) absent)))))
  where
    some : (count : ℕ) {s : Signal} → Kept s → Kept (among count number s)
    some count k = either (eqb number 0) absent (either (ltb count number) absent k)

-- ---- inputs and tables make whole numbers

pub sensed_kept : (s : Settings) (m : Memory) (sample : ℤ) → SFits w16 s.pv1 → SFits w16 s.pv2 → Kept (sensed s m sample).signal
unfolding sensed signal_of process
sensed_kept s m sample f g = either _ error (whole (line_fits s.fv1 s.pv1 s.fv2 s.pv2 _ f g))

module _ (response x y : List ℕ) where
  value_fits : (k : ℕ) → SFits w16 (value y k)
  unfolding value
  value_fits k = word_fits _

  curve_fits : (v : ℤ) → SFits w16 (curve response x y v)
  unfolding curve interval
  curve_fits v =
      let k = place response x v in
      chosen (SFits w16) (reaches x v 0) _ _ (λ e. value_fits 0)
      (λ e. chosen (SFits w16) (eqb k (used response)) _ _ (λ e. value_fits (used response - 1))
      (λ e. chosen (SFits w16) _ _ _ (λ e. line_fits (value x (k - 1)) (value y (k - 1)) (value x k) (value y k) v (value_fits (k - 1)) (value_fits k)) (λ e. value_fits k)))

  pub looked_up_kept : (s : Signal) → Kept (looked_up response x y s)
  unfolding looked_up
  looked_up_kept (Whole v) = whole (curve_fits v)
  looked_up_kept (Real r) = whole (curve_fits (nearest16 r))
  looked_up_kept Error = error
  looked_up_kept Absent = absent

-- ---- math

-- the running result is finite
abbrev Going : Running → Type 0
Going (at run) = T (finite run)
Going broken = Unit

number : {x : Float} → is_nan x ≡ false → Number x
number e = record { is = e }

-- an input as the block reads it: two scaling ends that differ
pub record Sound (input : Operand) : Type 0 where
  pub signal : Kept input.signal
  pub from : SFits w16 input.ends.from
  pub to : SFits w16 input.ends.to
  pub gain : SFits w16 input.gain
  pub order : below input.ends.from input.ends.to ≡ true

not_zero : (x : Float) → T (finite x) → eq x math.zero ≡ false → Divisor x
unfolding eq of_bits
not_zero nan f e = absurd f
not_zero (inf s) f e = absurd f
not_zero (fin s (suc m) k) f e = omega arith
not_zero (fin true zero k) f e = no (rw (zero-mul (up k), zero-mul (down k)) at e)
not_zero (fin false zero k) f e = no (rw (zero-mul (up k), zero-mul (down k)) at e)

divisor_finite : (x : Float) → Divisor x → T (finite x)
divisor_finite nan h = h
divisor_finite (inf s) h = h
divisor_finite (fin s m e) h = tt

read : {s : Signal} → Kept s → Kept (as_real s)
unfolding as_real
read (whole {v} f) = real (of_int-fits binary32 v) (finite_number (of_int binary32 v) (whole_finite v f)).is
read (real f e) = real f e
read error = error
read absent = absent

module _ (input : Operand) (h : Sound input) where
  scaled_finite : (v : Float) → Number v → T (finite (scaled v input.ends.from input.ends.to input.gain))
  unfolding scaled of_bits
  scaled_finite v n =
      let from = math.whole input.ends.from in
      let shift = sub binary32 v from in
      let width = sub binary32 (math.whole input.ends.to) from in
      let part = div binary32 shift width in
      let factor = div binary32 (math.whole input.gain) math.hundred in
      let divisor = whole_divisor input.ends.from input.ends.to h.from h.to h.order in
      near_finite 328 (mul binary32 (limit_real part math.zero math.one) factor)
      (product_near 1 328 (lit≤ tt) (limit_real part math.zero math.one) factor
      (limited_near part math.zero (divided shift width (taken v from n (whole_finite input.ends.from h.from)) divisor) none)
      (hundredth_near input.gain h.gain))

  starts_going : {s : Signal} → Kept s → Going (starts input s)
  unfolding starts
  starts_going (whole f) = tt
  starts_going (real {x} f e) = scaled_finite x (number e)
  starts_going error = tt
  starts_going absent = tt

  started_going : Going (started input)
  unfolding started
  started_going = starts_going (read h.signal)

  operated_number : (operator : ℕ) (run x : Float) → T (finite run) → T (finite x) → (eqb operator 3 && eq x math.zero) ≡ false → Number (operated operator run x)
  unfolding operated
  operated_number operator run x f g e =
      let x-is = finite_number x g in
      let run_is = finite_number run f in
      chosen Number _ _ _ (λ t. added run x run_is g)
      (λ t. chosen Number _ _ _ (λ t. taken run x run_is g)
      (λ t. chosen Number _ _ _ (λ t. multiplied run x f g)
      (λ t. chosen Number _ _ _ (λ t. divided run x run_is (not_zero x g (rw t at e)))
      (λ t. chosen Number _ _ _ (λ t. chosen Number _ _ _ (λ t. x-is) (λ t. run_is)) (λ t. chosen Number _ _ _ (λ t. x-is) (λ t. run_is))))))

  operated_going : (operator : ℕ) (x : Float) → T (finite x) → (run : Running) → Going run → Going (operated_on operator x run)
  unfolding operated_on of_bits neg
  operated_going operator x g broken f = tt
  operated_going operator x g (at run) f =
      chosen Going _ _ _ (λ e. tt)
      (λ e. near_finite 1 (limit_real (operated operator run x) (neg math.one) math.one)
      (limited_near (operated operator run x) (neg math.one) (operated_number operator run x f g e) minus_one))

  joins_going : (operator : ℕ) (run : Running) → Going run → {s : Signal} → Kept s → Going (joins operator input run s)
  unfolding joins
  joins_going operator run f (whole k) = f
  joins_going operator run f (real {x} k e) = operated_going operator (scaled x input.ends.from input.ends.to input.gain) (scaled_finite x (number e)) run f
  joins_going operator run f error = tt
  joins_going operator run f absent = f

  joined_going : (operator : ℕ) (run : Running) → Going run → Going (joined operator input run)
  unfolding joined
  joined_going operator run f = joins_going operator run f (read h.signal)

ended_kept : (ends : Ends) (run : Running) → SFits w16 ends.from → SFits w16 ends.to → below ends.from ends.to ≡ true → Going run → Kept (ended ends run)
unfolding ended limit_real of_bits
ended_kept ends broken f g o h = error
ended_kept ends (at run) f g o h =
    let from = math.whole ends.from in
    let to = math.whole ends.to in
    let part = limit_real run math.zero math.one in
    let width = sub binary32 to from in
    let value = add binary32 (mul binary32 part width) from in
    let from_is = whole_finite ends.from f in
    let part_is = near_finite 1 part (limited_near run math.zero (finite_number run h) none) in
    let width_is = divisor_finite width (whole_divisor ends.from ends.to f g o) in
    let value-is = added (mul binary32 part width) from (multiplied part width part_is width_is) from_is in
    real
    (chosen (λ (x : Float). T (fits binary32 x)) (lt value from) from _ (λ e. of_int-fits binary32 ends.from)
    (λ e. chosen (λ (x : Float). T (fits binary32 x)) (lt to value) to value (λ e. of_int-fits binary32 ends.to) (λ e. add-fits binary32 (mul binary32 part width) from)))
    (chosen Number (lt value from) from _ (λ e. finite_number from from_is)
    (λ e. chosen Number (lt to value) to value (λ e. finite_number to (whole_finite ends.to g)) (λ e. value-is))).is

pub combined_kept : (enabled : Bool) (a b c d : Operand) (x y z : ℕ) (ends : Ends) → Sound a → Sound b → Sound c → Sound d
    → SFits w16 ends.from → SFits w16 ends.to → below ends.from ends.to ≡ true → Kept (combined enabled a x b y c z d ends)
unfolding combined
combined_kept enabled a b c d x y z ends ha hb hc hd f g o =
    either _ absent (ended_kept ends _ f g o
    (joined_going d hd z _ (joined_going c hc y _ (joined_going b hb x _ (started_going a ha)))))

-- ---- of a unit

-- the chains of math n: "4y20h < 4y22h; 4521h < 4523h"
pub record Rising (unit : List ℕ) (n : ℕ) : Type 0 where
  pub inputs : (i : ℕ) → i < 4 → below (entry.whole unit (of_math 0x4020 n) (i + 1)) (entry.whole unit (of_math 0x4022 n) (i + 1)) ≡ true
  pub ends : below (entry.whole unit 0x4521 n) (entry.whole unit 0x4523 n) ≡ true

entry_fits : (unit : List ℕ) (index sub : ℕ) → SFits w16 (entry.whole unit index sub)
unfolding entry.whole
entry_fits unit index sub = word_fits _

module _ (unit : List ℕ) (n : ℕ) where
  pub input_number : (sample : ℤ) → Kept (sensed (inputs.settings unit n) (inputs.memory unit n) sample).signal
  unfolding inputs.settings
  input_number sample = sensed_kept (inputs.settings unit n) (inputs.memory unit n) sample (entry_fits unit 0x7121 n) (entry_fits unit 0x7123 n)

  pub table_number : Kept (table_signal unit n)
  unfolding table_signal
  table_number = looked_up_kept _ _ _ _

  pub math_number : Rising unit n → Kept (math_signal unit n)
  unfolding math_signal operand ends
  math_number r =
      combined_kept _ _ _ _ _ _ _ _ (ends unit n) (sound 0 (lit< tt)) (sound 1 (lit< tt)) (sound 2 (lit< tt)) (sound 3 (lit< tt))
      (entry_fits unit 0x4521 n) (entry_fits unit 0x4523 n) r.ends
    where
      sound : (i : ℕ) → i < 4 → Sound (operand unit n (i + 1))
      sound i h =
          record {
            signal = read (sourced_kept unit _ _);
            from = entry_fits unit (of_math 0x4020 n) (i + 1);
            to = entry_fits unit (of_math 0x4022 n) (i + 1);
            gain = entry_fits unit (of_math 0x4040 n) (i + 1);
            order = r.inputs i h;
          }
