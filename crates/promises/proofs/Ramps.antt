-- The ramps of a unit that runs.
-- Assumes nothing.
use Prim.Native.Nat.{ℕ, suc, ◌+◌, ◌<◌}
use mathlib.Core.List.{List}
use mathlib.Core.Path.{◌≡◌, refl, sym, ap, ◌∙◌, subst}
use lib.IntN.{ℤ}
use lib.ListN.{set}
use lib.Signed.{◌<ℤ◌}
use native.Mathlib.Omega.{arith}
use Rattle.numbers.specs.Choice.{first}
use Rattle.numbers.proofs.Orders.{below_is_lt}
use Rattle.dictionary.proofs.Tabulate.{tabulate, agree}
use Rattle.dictionary.specs.Names.{slot_of, words}
use Rattle.dictionary.specs.Unit.{signals_at, runs_at, flags_at, ramps_at, ramp_count_at, unit_size}
use Rattle.dictionary.proofs.naming.NameLaws.{counted}
use Rattle.dictionary.proofs.Unticked.{ramps_before}
use Rattle.roles.specs.Values.{starts, at_start}
use Rattle.signals.specs.Signal as signals
use Rattle.sdo.specs.Answers.{answer}
use Rattle.sdo.specs.Served.{after}
use Rattle.sdo.specs.declared.types.Done.TheVariants.{Value, Written}
use Rattle.image.specs.Loaded.{loaded}
use Rattle.image.specs.Reading.{reading}
use Rattle.output.specs.Lasting.{Course, Keeps, Ahead, Goes, until, Due}
use Rattle.output.specs.Output.{by_rule, driven, ramped}
use Rattle.output.specs.Outputs.{settings, motion}
use Rattle.output.specs.declared.Motion.{Motion}
use Rattle.output.proofs.Lasting.{lasts, moves_on, end_ahead, due, at_once, stands_still, named_still}
use Rattle.output.proofs.MotionLaws.{ramp_word}
use Rattle.unit.specs.Entry.{entry, whole}
use Rattle.controller.specs.Commands.{Commanded, control, rule_for}
use Rattle.controller.specs.Tick.{ticked}
use Rattle.controller.proofs.Commands.{same_motion, motion_unwritten, motion_forgotten}
use Rattle.controller.proofs.Kept.{Publishes, stands, register_first}
use Rattle.controller.proofs.Turns.{shown_low}
use Rattle.promises.specs.Ramps.{aim, Toward, Runs, EveryRampLasts, EveryRampMovesOn, EveryRampOnTime, EveryRamp0AtOnce, StartsAgain}
use Rattle.promises.specs.Running.{frame, load, happens, Sound}
use Rattle.promises.proofs.Accepted.{accepted}
use Rattle.promises.proofs.Running.{sizes, low_by_load, sound_after_frame, sound_after_tick, sound_after_load}
use Rattle.promises.proofs.Ticking.{limits_rise, each_tick}
use Rattle.sdo.specs.Frames.{Answer}
use Rattle.std.specs.Prelude.{Some, None, Ok, Err}

-- a frame writes at most one word, and none of an output's motion
kept_by_frame : (i : ℕ) → i < 4 → (unit f : List ℕ) (room : ℕ) (a : Answer) → answer unit f room ≡ a → motion (after unit a) (i + 1) ≡ motion unit (i + 1)
unfolding after
kept_by_frame i h unit f room None e = refl
kept_by_frame i h unit f room (Some (Err a)) e = refl
kept_by_frame i h unit f room (Some (Ok (Value w n))) e = refl
kept_by_frame i h unit f room (Some (Ok (Written slot word))) e =
    motion_forgotten (set unit slot word) i h ∙ motion_unwritten unit slot word i (accepted unit f room slot word e).below h

frames_keep : (i : ℕ) → i < 4 → (unit f : List ℕ) (room : ℕ) → motion (happens (frame f room) unit) (i + 1) ≡ motion unit (i + 1)
unfolding happens
frames_keep i h unit f room = kept_by_frame i h unit f room (answer unit f room) refl

-- a load leaves what stands behind the configuration
loads_keep : (i : ℕ) → i < 4 → (unit image : List ℕ) → Sound unit → motion (happens (load image) unit) (i + 1) ≡ motion unit (i + 1)
unfolding happens entry ramps_at
loads_keep i h unit image sound =
    let kept = low_by_load image unit (omega (arith, sound.size, sizes)) (reading image) in
    same_motion unit (loaded image unit (reading image)) i
    (kept (slot_of 0x7330 (i + 1)) (omega (arith, stands (Publishes.commanded i h), register_first, counted)) (shown_low (Publishes.commanded i h))).word
    (λ w g. (kept (ramp_word i w) (omega (arith, counted)) (omega (arith, ramps_before))).word)

-- one tick, by its rule
module _ (i : ℕ) (h : i < 4) (unit : List ℕ) (sound : Sound unit) (samples : List ℤ) where
  abbrev done : List ℕ
  done = ticked samples unit

  commands : Commanded unit done (i + 1)
  commands = (each_tick samples unit sound.size sound.valid).commands i h

  moved_by : {n : ℕ} → rule_for done (i + 1) ≡ n → motion done (i + 1) ≡ by_rule n (settings done (i + 1)) (signals.whole (control done (i + 1))) (motion unit (i + 1))
  unfolding rule_for driven
  moved_by e = commands.moves ∙ ap (λ (n : ℕ). by_rule n (settings done (i + 1)) (signals.whole (control done (i + 1))) (motion unit (i + 1))) e

  by_ramp : rule_for done (i + 1) ≡ 7 → motion done (i + 1) ≡ ramped (settings done (i + 1)) (signals.whole (control done (i + 1))) (motion unit (i + 1))
  unfolding by_rule first
  by_ramp e = moved_by e

  by_name : rule_for done (i + 1) < 7 → (motion done (i + 1)).count ≡ 0
  by_name l = ap (λ (m : Motion). m.count) (moved_by refl) ∙ named_still (rule_for done (i + 1)) _ _ _ commands.some.0 l

  by_standing : rule_for done (i + 1) ≡ 7 → whole done 0x7330 (i + 1) ≡ aim done (i + 1) → (motion done (i + 1)).count ≡ 0
  unfolding aim motion
  by_standing e there =
      let is = by_ramp e in
      ap (λ (m : Motion). m.count) is ∙ stands_still _ _ _ (sym (ap (λ (m : Motion). m.command) is) ∙ there)

  ordered : (c : Course) → Keeps c (settings done (i + 1)) → c.fv1 <ℤ c.fv2
  unfolding settings happens
  ordered c keeps =
      let o = below_is_lt _ _ (limits_rise done (sound_after_tick unit samples sound).valid i h) in
      subst (λ (z : ℤ). z <ℤ c.fv2) keeps.fv1 (subst (λ (z : ℤ). whole done 0x7321 (i + 1) <ℤ z) keeps.fv2 o)

-- a count of the unit is a count of its output's motion
module _ (i : ℕ) (h : i < 4) (c : Course) where
  sound_so : {k : ℕ} {unit : List ℕ} → Runs (i + 1) c k unit → Sound unit
  unfolding happens
  sound_so (Runs.starts s b e) = s
  sound_so (Runs.answers {unit = unit} f room b r) = sound_after_frame unit f room b (sound_so r)
  sound_so (Runs.loads {unit = unit} image b r) = sound_after_load unit image b (sound_so r)
  sound_so (Runs.ticks {unit = unit} samples r t) = sound_after_tick unit samples (sound_so r)

  goes_so : {k : ℕ} {unit : List ℕ} → Runs (i + 1) c k unit → Goes c k (motion unit (i + 1))
  unfolding aim motion
  goes_so (Runs.starts s b e) = Goes.starts b e
  goes_so (Runs.answers {k = k} {unit = unit} f room b r) = subst (Goes c k) (sym (frames_keep i h unit f room)) (goes_so r)
  goes_so (Runs.loads {k = k} {unit = unit} image b r) = subst (Goes c k) (sym (loads_keep i h unit image (sound_so r))) (goes_so r)
  goes_so (Runs.ticks {k = k} {unit = unit} samples r t) = subst (Goes c (suc k)) (sym (by_ramp i h unit (sound_so r) samples t.rule)) (Goes.goes _ _ (goes_so r) t.keeps t.ahead)

  -- FV1 lies below FV2: the last tick had them
  order_so : {k : ℕ} {unit : List ℕ} → Runs (i + 1) c (suc k) unit → c.fv1 <ℤ c.fv2
  order_so (Runs.answers f room b r) = order_so r
  order_so (Runs.loads image b r) = order_so r
  order_so (Runs.ticks {unit = unit} samples r t) = ordered i h unit (sound_so r) samples c t.keeps

pub every_ramp_lasts : EveryRampLasts
unfolding aim motion
every_ramp_lasts i h c some k unit r samples t =
    let sound = sound_so i h c r in
    ap (λ (m : Motion). m.command) (by_ramp i h unit sound samples t.rule)
    ∙ lasts c k (motion unit (i + 1)) _ _ (ordered i h unit sound samples c t.keeps) some (goes_so i h c r) t.keeps t.ahead

pub every_ramp_moves_on : EveryRampMovesOn
unfolding motion
every_ramp_moves_on i h c some k unit r = moves_on c k (motion unit (i + 1)) (order_so i h c r) some (goes_so i h c r)

pub every_ramp_on_time : EveryRampOnTime
every_ramp_on_time i h c here k unit r l samples rule keeps there =
    let order = ordered i h unit (sound_so i h c r) samples c keeps in
    let toward : Toward (i + 1) c k (ticked samples unit) = record { rule = rule; keeps = keeps; ahead = subst (Ahead c k) (sym there) (end_ahead c order here k l) } in
    subst (Due c (suc k)) (sym (every_ramp_lasts i h c (omega arith) k unit r samples toward ∙ ap (until c (suc k)) there)) (due c order here k l)

pub every_ramp_0_at_once : EveryRamp0AtOnce
unfolding aim motion
every_ramp_0_at_once i h unit sound samples rule none =
    ap (λ (m : Motion). m.command) (by_ramp i h unit sound samples rule) ∙ at_once _ _ (motion unit (i + 1)) none

at_first : tabulate 4 0 (λ i. (motion at_start (i + 1)).count) ≡ tabulate 4 0 (λ i. 0)
unfolding tabulate motion at_start starts words signals_at runs_at flags_at ramp_count_at unit_size
at_first = refl

pub starts_again : StartsAgain
starts_again =
    record {
      at_first = λ i h. agree 4 (λ i. (motion at_start (i + 1)).count) (λ i. 0) 0 at_first i h;
      named = by_name;
      standing = by_standing;
      frames = frames_keep;
      loading = loads_keep;
    }
