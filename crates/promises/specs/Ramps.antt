-- What is promised of the ramps of a unit that runs: document 02 (i), "Ramps that last as long as they say". Outputs are counted from i = 0.
-- Assumes nothing.
use Rattle.std.specs.Prelude.{ℕ, suc, ◌+◌, ◌<◌, List, ◌≡◌, ℤ}
use Rattle.numbers.specs.Limit.{limit_whole}
use Rattle.numbers.specs.Order.{below}
use Rattle.octets.specs.Little.{Bytes}
use Rattle.roles.specs.Values.{at_start}
use Rattle.signals.specs.Signal as signals
use Rattle.output.specs.Lasting.{Course, Keeps, Ahead, Starts, after, until, near, far, Due}
use Rattle.output.specs.Output.{target, in_use}
use Rattle.output.specs.Outputs.{settings, motion}
use Rattle.unit.specs.Entry.{whole}
use Rattle.controller.specs.Commands.{control, rule_for}
use Rattle.controller.specs.Tick.{ticked}
use Rattle.promises.specs.Running.{frame, load, happens, Sound}

-- the target of output n, by the unit after a tick
unfoldable pub aim : List ℕ → ℕ → ℤ
aim unit n = target (settings unit n) (signals.whole (control unit n))

-- the unit after a tick of output n under rule 7, with the count's FV1, FV2 and ramp, toward a target beyond where k ticks lead
pub record Toward (n : ℕ) (c : Course) (k : ℕ) (unit : List ℕ) : Type 0 where
  pub rule : rule_for unit n ≡ 7
  pub keeps : Keeps c (settings unit n)
  pub ahead : Ahead c k (aim unit n)

-- A count of output n, of so many ticks, with any frames and loads between them: it is started, and no tick reaches its target, wherever
-- that lies. Frames and loads may change what they like, if FV1, FV2 and the ramp in use are the count's again at the next tick.
pub data Runs (n : ℕ) (c : Course) : ℕ → List ℕ → Type 0 where
  starts : {unit : List ℕ} → Sound unit → Starts c (motion unit n) → limit_whole (whole unit 0x7330 n) c.fv1 c.fv2 ≡ c.start → Runs n c 0 unit
  answers : {k : ℕ} {unit : List ℕ} (f : List ℕ) (room : ℕ) → Bytes f → Runs n c k unit → Runs n c k (happens (frame f room) unit)
  loads : {k : ℕ} {unit : List ℕ} (image : List ℕ) → Bytes image → Runs n c k unit → Runs n c k (happens (load image) unit)
  ticks : {k : ℕ} {unit : List ℕ} (samples : List ℤ) → Runs n c k unit → Toward n c (suc k) (ticked samples unit) → Runs n c (suc k) (ticked samples unit)

-- the next tick leaves the command where the sentence puts it
abbrev pub EveryRampLasts : Type 0
EveryRampLasts =
    (i : ℕ) → i < 4 → (c : Course) → 0 < c.ramp → (k : ℕ) (unit : List ℕ) → Runs (i + 1) c k unit
    → (samples : List ℤ) → let after = ticked samples unit in Toward (i + 1) c k after
    → whole after 0x7330 (i + 1) ≡ until c (suc k) (aim after (i + 1))

-- "a changed target alone doesn't": after so many ticks 7330h is where they lead, wherever the targets were
abbrev pub EveryRampMovesOn : Type 0
EveryRampMovesOn =
    (i : ℕ) → i < 4 → (c : Course) → 0 < c.ramp → (k : ℕ) (unit : List ℕ) → Runs (i + 1) c (suc k) unit → whole unit 0x7330 (i + 1) ≡ after c (suc k)

-- from one end to the other it lasts as many ticks as it says, and not one less
abbrev pub EveryRampOnTime : Type 0
EveryRampOnTime =
    (i : ℕ) → i < 4 → (c : Course) → c.start ≡ near c → (k : ℕ) (unit : List ℕ) → Runs (i + 1) c k unit → k < c.ramp
    → (samples : List ℤ) → let after = ticked samples unit in rule_for after (i + 1) ≡ 7 → Keeps c (settings after (i + 1)) → aim after (i + 1) ≡ far c
    → Due c (suc k) (whole after 0x7330 (i + 1))

-- "Ramp 0 still goes at once."
abbrev pub EveryRamp0AtOnce : Type 0
EveryRamp0AtOnce =
    (i : ℕ) → i < 4 → (unit : List ℕ) → Sound unit → (samples : List ℤ) → let after = ticked samples unit in let s = settings after (i + 1) in
    rule_for after (i + 1) ≡ 7 → in_use s (below (limit_whole (whole unit 0x7330 (i + 1)) s.fv1 s.fv2) (aim after (i + 1))) ≡ 0
    → whole after 0x7330 (i + 1) ≡ aim after (i + 1)

-- what leaves no count
pub record StartsAgain : Type 0 where
  -- the first tick of all
  pub at_first : (i : ℕ) → i < 4 → (motion at_start (i + 1)).count ≡ 0
  -- "a tick under rules 1 to 6"
  pub named : (i : ℕ) → i < 4 → (unit : List ℕ) → Sound unit → (samples : List ℤ) → let after = ticked samples unit in
      rule_for after (i + 1) < 7 → (motion after (i + 1)).count ≡ 0
  -- "Standing at the target after the last tick"
  pub standing : (i : ℕ) → i < 4 → (unit : List ℕ) → Sound unit → (samples : List ℤ) → let after = ticked samples unit in
      rule_for after (i + 1) ≡ 7 → whole after 0x7330 (i + 1) ≡ aim after (i + 1) → (motion after (i + 1)).count ≡ 0
  -- and what is remembered no frame and no load changes
  pub frames : (i : ℕ) → i < 4 → (unit f : List ℕ) (room : ℕ) → motion (happens (frame f room) unit) (i + 1) ≡ motion unit (i + 1)
  pub loading : (i : ℕ) → i < 4 → (unit image : List ℕ) → Sound unit → motion (happens (load image) unit) (i + 1) ≡ motion unit (i + 1)
