-- The promises of a tick.
-- Assumes nothing.
use Prim.Native.Nat.{ℕ, ◌+◌, ◌<◌}
use mathlib.Core.Bool.{true, false}
use mathlib.Core.Path.{◌≡◌, refl, sym, ap, ◌∙◌, subst}
use mathlib.Core.List.{List, []}
use native.Mathlib.Omega.{arith}
use borrow.Author.Tests.{not-false}
use lib.Ieee.{is_nan}
use lib.ListN.{drop}
use lib.Seq.{get_or-take, get_or-drop}
use lib.Signed.{◌≤ℤ◌}
use Rattle.numbers.specs.Choice.{first}
use Rattle.numbers.specs.Order.{below}
use Rattle.numbers.specs.Signed.{signed16}
use Rattle.numbers.proofs.Orders.{not_below_is_le}
use Rattle.dictionary.specs.Names.{slot_of, configured}
use Rattle.dictionary.proofs.Tabulate.{tabulate, agree}
use Rattle.dictionary.proofs.naming.NameLaws.{counted}
use Rattle.signals.specs.declared.signal.Signal.{Signal}
use Rattle.signals.specs.declared.signal.Signal.TheVariants.{Real}
use Rattle.signals.proofs.keeping.WordLaws.{Kept, real}
use Rattle.roles.specs.Chains.{chains, upper_in, upper_of}
use Rattle.roles.specs.Values.{at_start}
use Rattle.roles.specs.declared.types.Link.{Link}
use Rattle.roles.specs.declared.types.Link.TheVariants.{Free, Loose, Strict}
use Rattle.entries.specs.Judge as judge
use Rattle.entries.specs.Valid.{Valid}
use Rattle.unit.specs.Entry as entry
use Rattle.unit.proofs.Slots.{has, have, array, math_array, table_array}
use Rattle.math.specs.Maths.{of_math}
use Rattle.table.specs.Table.{value}
use Rattle.table.specs.Tables.{of_table, eleven}
use Rattle.table.proofs.TableLaws as Curve
use Rattle.controller.proofs.Commands.{commanded}
use Rattle.controller.proofs.Numbers.{Rising, input_number, math_number, table_number, sourced_kept}
use Rattle.controller.proofs.Saw.{saw}
use Rattle.controller.proofs.Shown.{all_shown}
use Rattle.controller.proofs.Made as Made
use Rattle.promises.specs.Running.{run}
use Rattle.promises.specs.Ticking.{Makes, NoNan, TableSentence, EachTick, EveryTick}
use Rattle.promises.proofs.Running.{always_sound}

-- ---- the chains that a tick leans on: "4y20h < 4y22h; 4521h < 4523h; 7321h < 7323h (same sub-index)"

-- the neighbour above a name's sub i + 1, and that another name's is it
abbrev above : ℕ → ℕ → Link
above lower i = upper_of (slot_of lower (i + 1))

abbrev next : ℕ → ℕ → Link
next upper i = Strict (slot_of upper (i + 1))

maths_linked : tabulate 4 0 (λ k. tabulate 4 0 (above (of_math 0x4020 (k + 1)))) ≡ tabulate 4 0 (λ k. tabulate 4 0 (next (of_math 0x4022 (k + 1))))
unfolding tabulate chains upper_of upper_in first slot_of
maths_linked = refl

ends_linked : tabulate 4 0 (above 0x4521) ≡ tabulate 4 0 (next 0x4523)
unfolding tabulate chains upper_of upper_in first slot_of
ends_linked = refl

limits_linked : tabulate 4 0 (above 0x7321) ≡ tabulate 4 0 (next 0x7323)
unfolding tabulate chains upper_of upper_in first slot_of
limits_linked = refl

-- "30z5h:1 <= :2 <= .. <= :11": the words of each follow each other
points : ℕ → ℕ
points k = slot_of (of_table 0x3005 (k + 1)) 1

points_linked : tabulate 6 0 (λ k. tabulate 10 0 (λ i. upper_of (points k + i))) ≡ tabulate 6 0 (λ k. tabulate 10 0 (λ i. Loose (points k + (i + 1))))
unfolding tabulate chains upper_of upper_in first slot_of points
points_linked = refl

module _ (unit : List ℕ) (v : Valid unit) where
  -- a strict neighbour above is greater
  strictly : (i s j t : ℕ) → slot_of i s < configured → upper_of (slot_of i s) ≡ Strict (slot_of j t) → below (entry.whole unit i s) (entry.whole unit j t) ≡ true
  unfolding judge.held judge.past_upper entry.whole entry.entry
  strictly i s j t h e = not-false _ (ap (λ (l : Link). judge.past_upper unit l (entry.whole unit i s)) (sym e) ∙ v.linked (slot_of i s) h)

  module _ (k : ℕ) (h : k < 4) where
    pub rising : Rising unit (k + 1)
    unfolding has have
    rising =
        record {
          inputs = λ i g.
              strictly (of_math 0x4020 (k + 1)) (i + 1) (of_math 0x4022 (k + 1)) (i + 1) (omega (arith, math_array 0x4020 refl k h i g, counted))
              (agree 4 (above (of_math 0x4020 (k + 1))) (next (of_math 0x4022 (k + 1))) Free
              (agree 4 (λ k. tabulate 4 0 (above (of_math 0x4020 (k + 1)))) (λ k. tabulate 4 0 (next (of_math 0x4022 (k + 1)))) [] maths_linked k h) i g);
          ends = strictly 0x4521 (k + 1) 0x4523 (k + 1) (omega (arith, array 0x4521 refl k h, counted)) (agree 4 (above 0x4521) (next 0x4523) Free ends_linked k h);
        }

    pub limits_rise : below (entry.whole unit 0x7321 (k + 1)) (entry.whole unit 0x7323 (k + 1)) ≡ true
    unfolding has
    limits_rise = strictly 0x7321 (k + 1) 0x7323 (k + 1) (omega (arith, array 0x7321 refl k h, counted)) (agree 4 (above 0x7321) (next 0x7323) Free limits_linked k h)

  -- the X of a table's points rise
  module _ (k : ℕ) (h : k < 6) where
    point : (i : ℕ) → i < 11 → value (eleven unit (of_table 0x3005 (k + 1))) i ≡ judge.held unit (points k + i)
    unfolding value eleven judge.held points
    point i g = ap signed16 (get_or-take 11 (drop (points k) unit) i 0 g ∙ get_or-drop (points k) unit i 0)

    points_rise : (i : ℕ) → i < 10 → value (eleven unit (of_table 0x3005 (k + 1))) i ≤ℤ value (eleven unit (of_table 0x3005 (k + 1))) (i + 1)
    unfolding judge.past_upper have points
    points_rise i g =
        let link = agree 10 (λ i. upper_of (points k + i)) (λ i. Loose (points k + (i + 1))) Free
        (agree 6 (λ k. tabulate 10 0 (λ i. upper_of (points k + i))) (λ k. tabulate 10 0 (λ i. Loose (points k + (i + 1)))) [] points_linked k h) i g in
        rw (point i (omega arith), point (i + 1) (omega arith)) (not_below_is_le _ _
        (ap (λ (l : Link). judge.past_upper unit l (judge.held unit (points k + i))) (sym link) ∙ v.linked (points k + i) (omega (arith, table_array 0x3005 refl k h, counted))))

-- ---- the promises

made_kept : (unit : List ℕ) → Valid unit → (signal : Signal) → Makes unit signal → Kept signal
made_kept unit v signal (Makes.input k sample) = input_number unit (k + 1) sample
made_kept unit v signal (Makes.math k h) = math_number unit (k + 1) (rising unit v k h)
made_kept unit v signal (Makes.table k) = table_number unit (k + 1)
made_kept unit v signal (Makes.logic k) = sourced_kept unit 3 _

pub no_nan : NoNan
no_nan unit v signal m x e = by (subst Kept e (made_kept unit v signal m)) where
  by : Kept (Real x) → is_nan x ≡ false
  by (real f e) = e

pub table_sentence : TableSentence
table_sentence unit v k h x =
    Curve.sentence _ _ _ x (λ i g. points_rise unit v k h i (omega (arith, Curve.used_most (eleven unit (of_table 0x3004 (k + 1))))))

pub each_tick : EachTick
each_tick samples unit size v =
    record {
      signals =
          record {
            input = λ k h. Made.input_made samples unit size k h;
            math = λ k h. Made.math_made samples unit size k h (rising unit v k h);
            table = λ k h. Made.table_made samples unit size k h;
            logic = λ k h. Made.logic_made samples unit size k h;
          };
      saw = saw samples unit size (rising unit v);
      shown = all_shown samples unit size (rising unit v);
      commands = λ k h. commanded samples unit size k h (limits_rise unit v k h);
    }

pub every_tick : EveryTick
every_tick events b samples = let sound = always_sound events b in each_tick samples (run events at_start) sound.size sound.valid
