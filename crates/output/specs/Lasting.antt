-- What is promised of a ramp: document 02 (i), "Ramps that last as long as they say".
-- Assumes nothing.
use Rattle.std.specs.Prelude.{ℕ, zero, suc, ◌<◌, Bool, true, ◌≡◌, ℤ, pos, ◌+ℤ◌, ◌-ℤ◌, ◌<ℤ◌}
use Rattle.numbers.specs.Choice.{first}
use Rattle.numbers.specs.Limit.{limit_whole}
use Rattle.numbers.specs.Order.{below}
use Rattle.output.specs.Output.{span, way, target, in_use, ramped}
use Rattle.output.specs.declared.Motion.{Motion}
use Rattle.output.specs.declared.Settings.{Settings}

-- ---- where the sentence puts a command

-- so far from x, and short of b, in a direction
unfoldable pub along : Bool → ℤ → ℕ → ℤ
along rising x n = first rising (x +ℤ pos n) (x -ℤ pos n)

unfoldable pub short : Bool → ℤ → ℤ → Bool
short rising a b = first rising (below a b) (below b a)

-- a count: its direction, FV1, FV2, the ramp in use, and the command at which it began
pub record Course : Type 0 where
  pub rising : Bool
  pub fv1 : ℤ
  pub fv2 : ℤ
  pub ramp : ℕ
  pub start : ℤ

-- "its movement after k ticks must be k x (FV2 - FV1) / ramp rounded down"
unfoldable pub after : Course → ℕ → ℤ
after c k = along c.rising c.start (way k (span c.fv1 c.fv2) c.ramp)

-- "stopped at the target"
unfoldable pub until : Course → ℕ → ℤ → ℤ
until c k to = first (short c.rising (after c k) to) (after c k) to

-- ---- ticks under rule 7 over which the count goes on

-- FV1, FV2 and the ramp in use stay; all else may change
pub record Keeps (c : Course) (s : Settings) : Type 0 where
  pub fv1 : s.fv1 ≡ c.fv1
  pub fv2 : s.fv2 ≡ c.fv2
  pub ramp : in_use s c.rising ≡ c.ramp

-- the target lies beyond where k ticks lead
unfoldable pub Ahead : Course → ℕ → ℤ → Type 0
Ahead c k to = short c.rising (after c k) to ≡ true

-- What starts a count, and only that: none is remembered, which is so on the first tick, "standing at the target after the last tick" and after
-- "a tick under rules 1 to 6"; or "a change of direction, FV1, FV2 or the ramp in use since the last tick"
pub data Starts (c : Course) (m : Motion) : Type 0 where
  none : m.count ≡ 0 → Starts c m
  direction : (m.rising ≡ c.rising → ⊥) → Starts c m
  fv1 : (m.fv1 ≡ c.fv1 → ⊥) → Starts c m
  fv2 : (m.fv2 ≡ c.fv2 → ⊥) → Starts c m
  ramp : (m.used ≡ c.ramp → ⊥) → Starts c m

-- A count begins at the limited last command, and goes on with each tick that does not reach its target, wherever that lies: "a changed
-- target alone doesn't" start it again.
pub data Goes (c : Course) : ℕ → Motion → Type 0 where
  starts : {m : Motion} → Starts c m → limit_whole m.command c.fv1 c.fv2 ≡ c.start → Goes c 0 m
  goes : {k : ℕ} {m : Motion} (s : Settings) (v : ℤ) → Goes c k m → Keeps c s → Ahead c (suc k) (target s v) → Goes c (suc k) (ramped s v m)

-- "While a command rises toward a target, a moving one too, its movement after k ticks must be k x (FV2 - FV1) / ramp rounded down,
-- stopped at the target; falling likewise."
abbrev pub Lasts : Type 0
Lasts =
    (c : Course) (k : ℕ) (m : Motion) (s : Settings) (v : ℤ) → c.fv1 <ℤ c.fv2 → 0 < c.ramp
    → Goes c k m → Keeps c s → Ahead c k (target s v) → (ramped s v m).command ≡ until c (suc k) (target s v)

-- Wherever the targets were: a lever that is always moving does not "hold a slow output still". After k ticks that did not reach theirs the
-- command stands where k ticks lead.
abbrev pub MovesOn : Type 0
MovesOn = (c : Course) (k : ℕ) (m : Motion) → c.fv1 <ℤ c.fv2 → 0 < c.ramp → Goes c (suc k) m → m.command ≡ after c (suc k)

-- ---- from one end to the other

unfoldable pub near : Course → ℤ
near c = first c.rising c.fv1 c.fv2

unfoldable pub far : Course → ℤ
far c = first c.rising c.fv2 c.fv1

-- a ramp that says n ticks lasts n ticks, and not one less: where the command is due after k ticks from the one end to the other
pub record Due (c : Course) (k : ℕ) (command : ℤ) : Type 0 where
  pub not_before : k < c.ramp → short c.rising command (far c) ≡ true
  pub then : k ≡ c.ramp → command ≡ far c

unfoldable pub again : ℕ → (Motion → Motion) → Motion → Motion
again zero tick m = m
again (suc n) tick m = tick (again n tick m)

abbrev pub OnTime : Type 0
OnTime =
    (c : Course) (s : Settings) (v : ℤ) (m : Motion) → c.fv1 <ℤ c.fv2 → Keeps c s → c.start ≡ near c → target s v ≡ far c → Goes c 0 m
    → (k : ℕ) → k < c.ramp → Due c (suc k) (again (suc k) (ramped s v) m).command

-- "Ramp 0 still goes at once."
abbrev pub AtOnce : Type 0
AtOnce =
    (s : Settings) (v : ℤ) (m : Motion) → in_use s (below (limit_whole m.command s.fv1 s.fv2) (target s v)) ≡ 0 → (ramped s v m).command ≡ target s v
