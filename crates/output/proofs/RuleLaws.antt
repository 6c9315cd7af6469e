-- The command by the signals themselves, one after the other, as a caller asks for them: no rule's number stands between.
-- Assumes nothing.
use Prim.Native.Nat.{ℕ}
use mathlib.Core.Bool.{Bool, true, false}
use mathlib.Core.Path.{◌≡◌, refl}
use lib.IntN.{pos}
use Rattle.numbers.specs.Choice.{first}
use Rattle.signals.specs.Signal.{is_error, is_absent, whole}
use Rattle.signals.specs.declared.signal.Signal.{Signal}
use Rattle.output.specs.Output.{rule, rule_of, fault_of, ramped, rests, by_rule, driven}
use Rattle.output.specs.Turning.{turned_on, turned_off}
use Rattle.output.specs.declared.Motion.{Motion}
use Rattle.output.specs.declared.Settings.{Settings}

-- the first test that holds gives its answer, whether it is looked for by its place or not
firsts : {A : Type 0} (answer : ℕ → A) (b1 b2 b3 b4 b5 b6 : Bool) →
    answer (first b1 1 (first b2 2 (first b3 3 (first b4 4 (first b5 5 (first b6 6 7)))))) ≡
    first b1 (answer 1) (first b2 (answer 2) (first b3 (answer 3) (first b4 (answer 4) (first b5 (answer 5) (first b6 (answer 6) (answer 7))))))
unfolding first
firsts answer true b2 b3 b4 b5 b6 = refl
firsts answer false true b3 b4 b5 b6 = refl
firsts answer false false true b4 b5 b6 = refl
firsts answer false false false true b5 b6 = refl
firsts answer false false false false true b6 = refl
firsts answer false false false false false true = refl
firsts answer false false false false false false = refl

pub by_signals : (s : Settings) (control enable over : Signal) (m : Motion) →
    driven s control enable over m ≡
    first (turned_off s.enable_response enable) (rests (pos 0))
    (first (is_error enable) (rests (fault_of s m.command))
    (first (turned_on s.override_response over) (rests s.override_fv)
    (first (is_error over) (rests (fault_of s m.command))
    (first (is_error control) (rests (fault_of s m.command))
    (first (is_absent control) (rests (pos 0))
    (ramped s (whole control) m))))))
unfolding driven rule_of rule by_rule first
by_signals s control enable over m =
    firsts (λ (n : ℕ). by_rule n s (whole control) m)
    (turned_off s.enable_response enable) (is_error enable) (turned_on s.override_response over) (is_error over) (is_error control) (is_absent control)
