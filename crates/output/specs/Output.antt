-- A current output over one tick: the paragraph "Output" of "One tick", with document 02 (i), "Ramps that last as long as they say".
-- Assumes nothing.
use Rattle.std.specs.Prelude.{ℕ, ◌+◌, ◌*◌, ◌/◌, Bool, false, not, ◌&&◌, eqb, ltb, ℤ, pos, nat_abs, ◌+ℤ◌, ◌-ℤ◌}
use Rattle.numbers.specs.Choice.{first}
use Rattle.numbers.specs.Limit.{limit_whole}
use Rattle.numbers.specs.Line.{line_at}
use Rattle.numbers.specs.Order.{below}
use Rattle.signals.specs.Signal.{is_error, is_absent, whole}
use Rattle.output.specs.declared.Motion.{Motion}
use Rattle.output.specs.declared.Settings.{Settings}
use Rattle.signals.specs.declared.signal.Signal.{Signal}
use Rattle.output.specs.Turning.{turned_on, turned_off}

-- "First rule that applies": its number in the paper. An unavailable enable is neither off nor in error, so it
-- enables; an unavailable override is neither on nor in error, so it does nothing.
unfoldable pub rule : Signal → ℕ → Signal → ℕ → Signal → ℕ
rule enable enabling over overriding control =
    first (turned_off enabling enable) 1
    (first (is_error enable) 2
    (first (turned_on overriding over) 3
    (first (is_error over) 4
    (first (is_error control) 5
    (first (is_absent control) 6
    7)))))

-- "Fault: mode 0 keeps the last command" as it was, "mode 1 takes the fault FV"; so does any other mode
unfoldable pub fault_of : Settings → ℤ → ℤ
fault_of s last = first (eqb s.fault_mode 0) last s.fault_fv

-- FV2 - FV1. Where FV2 is not above FV1, which no accepted setting has, there is nothing to move over.
unfoldable pub span : ℤ → ℤ → ℕ
span fv1 fv2 = first (below fv1 fv2) (nat_abs (fv2 -ℤ fv1)) 0

-- "its movement after k ticks must be k x (FV2 - FV1) / ramp rounded down"
unfoldable pub way : ℕ → ℕ → ℕ → ℕ
way k width ramp = k * width / ramp

unfoldable pub higher : ℤ → ℤ → ℤ
higher a b = first (below a b) b a

unfoldable pub lower : ℤ → ℤ → ℤ
lower a b = first (below a b) a b

-- "stopped at the target": so far from the count's start, upward and downward. A rising command is never put below where it stands, nor a
-- falling one above: in a unit that runs it would not be, and so the command stays between FV1 and FV2 whatever the words hold.
unfoldable pub rise : ℤ → ℕ → ℤ → ℤ → ℤ
rise start far from to = first (below (start +ℤ pos far) to) (higher from (start +ℤ pos far)) to

unfoldable pub fall : ℤ → ℕ → ℤ → ℤ → ℤ
fall start far from to = first (below to (start -ℤ pos far)) (lower from (start -ℤ pos far)) to

unfoldable pub reached : Bool → ℤ → ℕ → ℤ → ℤ → ℤ
reached rising start far from to = first rising (rise start far from to) (fall start far from to)

unfoldable pub equal : ℤ → ℤ → Bool
equal a b = not (below a b) && not (below b a)

unfoldable pub alike : Bool → Bool → Bool
alike a b = first a b (not b)

-- "a change of direction, FV1, FV2 or the ramp in use since the last tick": the values at the two ticks differ
unfoldable pub unchanged : Settings → Motion → Bool → ℕ → Bool
unchanged s m rising ramp = eqb m.used ramp && alike m.rising rising && equal m.fv1 s.fv1 && equal m.fv2 s.fv2

-- "Standing at the target after the last tick, a change .., or a tick under rules 1 to 6, starts the count again": a count of 0 stands for
-- the first and the last, and for the first tick of all. Nothing else does: who has not arrived has counted fewer ticks than the ramp has.
unfoldable pub goes_on_counting : Settings → Motion → Bool → ℕ → Bool
goes_on_counting s m rising ramp = not (eqb m.count 0) && ltb m.count ramp && unchanged s m rising ramp

-- k of this tick
unfoldable pub counted : Settings → Motion → Bool → ℕ → ℕ
counted s m rising ramp = first (goes_on_counting s m rising ramp) (m.count + 1) 1

-- the command at which the count began: the first tick begins where it stands
unfoldable pub begun : Motion → ℕ → ℤ → ℤ
begun m k from = first (eqb k 1) from m.start

-- a command with no count: a rule of 1 to 6 named it, or it stands at its target
unfoldable pub rests : ℤ → Motion
rests command = record { command = command; count = 0; start = pos 0; rising = false; fv1 = pos 0; fv2 = pos 0; used = 0 }

-- k ticks from the start, in a direction and by its ramp; who arrives stands there
unfoldable pub advanced : Settings → ℕ → ℤ → ℤ → ℤ → Bool → ℕ → Motion
advanced s k start from to rising ramp =
    let command = reached rising start (way k (span s.fv1 s.fv2) ramp) from to in
    first (equal command to) (rests to)
    (record { command = command; count = k; start = start; rising = rising; fv1 = s.fv1; fv2 = s.fv2; used = ramp })

-- one tick from the limited last command toward a target that lies elsewhere
unfoldable pub moved : Settings → Motion → ℤ → ℤ → Bool → ℕ → Motion
moved s m from to rising ramp =
    let k = counted s m rising ramp in
    advanced s k (begun m k from) from to rising ramp

-- "the ramp in use": the ramp up where the target lies above, else the ramp down
unfoldable pub in_use : Settings → Bool → ℕ
in_use s rising = first rising s.ramp_up s.ramp_down

-- "control .. limited to PV1..PV2, on the line to FV1..FV2"
unfoldable pub target : Settings → ℤ → ℤ
target s v = line_at s.pv1 s.fv1 s.pv2 s.fv2 (limit_whole v s.pv1 s.pv2)

-- rule 7: "the last command, limited to FV1..FV2, moves toward it"; at the target there is no direction; "Ramp 0 still goes at once."
unfoldable pub ramped : Settings → ℤ → Motion → Motion
ramped s v m =
    let from = limit_whole m.command s.fv1 s.fv2 in
    let to = target s v in
    let rising = below from to in
    first (equal from to) (rests to)
    (first (eqb (in_use s rising) 0) (rests to)
    (moved s m from to rising (in_use s rising)))

-- by the rule's number: 7 is the ramp to the target, 1 to 6 name their value
unfoldable pub by_rule : ℕ → Settings → ℤ → Motion → Motion
by_rule n s v m =
    first (eqb n 1) (rests (pos 0))
    (first (eqb n 2) (rests (fault_of s m.command))
    (first (eqb n 3) (rests s.override_fv)
    (first (eqb n 4) (rests (fault_of s m.command))
    (first (eqb n 5) (rests (fault_of s m.command))
    (first (eqb n 6) (rests (pos 0))
    (ramped s v m))))))

-- the rule that applied
unfoldable pub rule_of : Settings → Signal → Signal → Signal → ℕ
rule_of s control enable over = rule enable s.enable_response over s.override_response control

-- one tick, by that rule; "control (REAL32 as for tables)" by its whole number
unfoldable pub driven : Settings → Signal → Signal → Signal → Motion → Motion
driven s control enable over m = by_rule (rule_of s control enable over) s (whole control) m
