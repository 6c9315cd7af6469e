-- The promises of a table at work.
-- Assumes nothing.
use Prim.Native.Nat.{ℕ, ◌+◌, ◌<◌}
use mathlib.Core.List.{List}
use mathlib.Core.Path.{◌≡◌, refl, sym, ap, ◌∙◌, subst}
use lib.IntN.{ℤ}
use mir.Syntax.{w16}
use mir.Val.{SFits}
use Rattle.numbers.specs.Signed.{signed16, pattern16}
use Rattle.numbers.proofs.rounding.Rising.{nearest_rises}
use Rattle.signals.specs.Signal as signals
use Rattle.signals.specs.declared.signal.Signal.{Signal}
use Rattle.signals.specs.declared.signal.Signal.TheVariants.{Whole}
use Rattle.signals.proofs.keeping.WordLaws.{Kept, pattern_read}
use Rattle.roles.specs.Values.{at_start}
use Rattle.unit.specs.Entry.{entry, whole}
use Rattle.unit.specs.Held.{tables, held}
use Rattle.table.specs.Table.{curve, looked_up}
use Rattle.table.proofs.Curves.{never_dips, stays_between}
use Rattle.controller.specs.Turns.{at_turn}
use Rattle.controller.proofs.Numbers.{table_number}
use Rattle.promises.specs.Curves.{Through, Gives, NoSmaller, TablesNeverDip, Number, TablesStayBetween}
use Rattle.promises.specs.Running.{run}
use Rattle.promises.specs.Ticking.{Ticked}
use Rattle.promises.proofs.Ticking.{every_tick}

module _ (k : ℕ) (h : k < 6) (response x y : List ℕ) where
  -- the x of the curve is the INTEGER16 that X becomes
  looked_up_lem : (saw : Signal) → Number saw → looked_up response x y saw ≡ Whole (curve response x y (signals.whole saw))
  unfolding looked_up signals.whole
  looked_up_lem saw Number.a_whole = refl
  looked_up_lem saw Number.a_real = refl

  module _ {saw : Signal} {after : List ℕ} (t : Through k response x y saw after) where
    tick : Ticked t.samples (run t.events at_start) after
    tick = subst (Ticked t.samples (run t.events at_start)) (sym t.left) (every_tick t.events t.bytes t.samples)

    fits : {n : ℤ} → held after tables (k + 1) ≡ Whole n → SFits w16 n
    fits e = by (subst Kept (sym (tick.signals.table k h) ∙ e) (table_number (at_turn t.samples (run t.events at_start) (tables + k)) (k + 1)))
      where
        by : {n : ℤ} → Kept (Whole n) → SFits w16 n
        by (Kept.whole f) = f

    gives : Number saw → Gives k after (curve response x y (signals.whole saw))
    unfolding whole entry signals.whole
    gives n =
        let told : held after tables (k + 1) ≡ Whole (curve response x y (signals.whole saw))
        = tick.saw.table k h ∙ rw (t.responses, t.xs, t.ys, t.sees) (looked_up_lem saw n) in
        record {
          signal = told;
          shown = ap signed16 (tick.shown.looked_up_lem k h ∙ ap (λ (s : Signal). pattern16 (signals.whole s)) told) ∙ pattern_read _ (fits told);
        }

pub tables_never_dip : TablesNeverDip
unfolding signals.whole
tables_never_dip k h response x y rise saw saw' after after' t u (NoSmaller.wholes {v} {w} l) =
    record { low = _; high = _; first = gives k h response x y t Number.a_whole; second = gives k h response x y u Number.a_whole; order = never_dips response x y rise v w l }
tables_never_dip k h response x y rise saw saw' after after' t u (NoSmaller.reals {r} {s} l) =
    record { low = _; high = _; first = gives k h response x y t Number.a_real; second = gives k h response x y u Number.a_real; order = never_dips response x y rise _ _ (nearest_rises r s l) }

pub tables_stay_between : TablesStayBetween
tables_stay_between k h response x y saw after t n =
    record { output = _; gives = gives k h response x y t n; between = stays_between response x y (signals.whole saw) }
