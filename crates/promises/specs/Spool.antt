-- What is promised of the twin-coil spool product, document 02 (iv): over any list of frames, ticks and images that are loaded, whatever its coils were sent.
-- Assumes nothing.
use Rattle.std.specs.Prelude.{ℕ, ◌+◌, ◌<◌, ◌≡◌, List, [], ◌∷◌, ◌++◌, ℤ, pos, ◌≤ℤ◌}
use Rattle.roles.specs.Values.{at_start}
use Rattle.unit.specs.Entry.{whole}
use Rattle.controller.specs.Tick.{ticked}
use Rattle.firmware.specs.Published.{commands}
use Rattle.spool.specs.Interlock.{sent_at_start, interlocked}
use Rattle.spool.specs.Coils.{Coil, one, two, other, of, Above0, At0, Holds, Obeys, NotBoth}
use Rattle.promises.specs.Running.{Event, frame, tick, load, happens, run, Did, MadeOfBytes}

-- ---- the product at work

-- the core's unit, and what the two coils were sent
pub record Product : Type 0 where
  pub unit : List ℕ
  pub sent : List ℤ

-- "Both start as sent 0."
unfoldable pub started : Product
started = record { unit = at_start; sent = sent_at_start }

-- what the definitions make of an event, and of a list of them: a tick is the product's own, frames and images go to the core
unfoldable pub occurs : Event → Product → Product
occurs (frame f room) p = record { unit = happens (frame f room) p.unit; sent = p.sent }
occurs (tick samples) p = record { unit = ticked samples p.unit; sent = interlocked (commands (ticked samples p.unit)) p.sent }
occurs (load image) p = record { unit = happens (load image) p.unit; sent = p.sent }

unfoldable pub works : List Event → Product → Product
works [] p = p
works (e ∷ es) p = works es (occurs e p)

-- what the contracts allow of an event: `spool_tick`'s of a tick, the core's of frames and images, to which `sent` is not lent
pub data Occurred : Event → Product → Product → Type 0 where
  by_frame : {f unit unit' : List ℕ} {room : ℕ} {sent : List ℤ} → Did (frame f room) unit unit' → Occurred (frame f room) (record { unit = unit; sent = sent }) (record { unit = unit'; sent = sent })
  by_tick : {samples : List ℤ} {p p' : Product} → p'.unit ≡ ticked samples p.unit → p'.sent ≡ interlocked (commands (ticked samples p.unit)) p.sent → Occurred (tick samples) p p'
  by_load : {image unit unit' : List ℕ} {sent : List ℤ} → Did (load image) unit unit' → Occurred (load image) (record { unit = unit; sent = sent }) (record { unit = unit'; sent = sent })

pub data Worked : List Event → Product → Product → Type 0 where
  stop : {p : Product} → Worked [] p p
  then : {e : Event} {es : List Event} {p q r : Product} → Occurred e p q → Worked es q r → Worked (e ∷ es) p r

-- the product after any list of events is the definitions' fold over it
abbrev pub OnlyThese : Type 0
OnlyThese = (events : List Event) (p q : Product) → Worked events p q → q ≡ works events p

-- "Demand 3 reads as before": the unit is what the core's own run over the same events leaves, so whatever is promised of a unit that runs is promised of the product's
abbrev pub CoreAsBefore : Type 0
CoreAsBefore = (events : List Event) (p : Product) → (works events p).unit ≡ run events p.unit

-- no frame and no image changes what the coils are sent
abbrev pub OnlyTicksSend : Type 0
OnlyTicksSend = (p : Product) → ((f : List ℕ) (room : ℕ) → (occurs (frame f room) p).sent ≡ p.sent) × ((image : List ℕ) → (occurs (load image) p).sent ≡ p.sent)

-- ---- what the coils are sent

-- "over any ticks and writes never both above 0": from the start after any list, and from anything that was sent after any list that has a tick
abbrev pub NeverBothAbove : Type 0
NeverBothAbove =
    ((events : List Event) → NotBoth (works events started).sent)
    × ((before events : List Event) (samples : List ℤ) (p : Product) → NotBoth (works (before ++ tick samples ∷ events) p).sent)

-- "each coil is sent the core's command whenever these rules don't hold it at 0", and only then; 0 when they do. At every tick, after any list of events
abbrev pub SentOn : Type 0
SentOn =
    (events : List Event) (p : Product) (samples : List ℤ) (coil : Coil) → let before = works events p in let after = occurs (tick samples) before in
    Obeys (Holds coil (commands after.unit) before.sent) (of coil (commands after.unit)) (of coil after.sent)

-- ---- who waits, of a product whose unit has run since its start, whatever its coils were sent

-- its commands are then not below 0
pub record SinceStart (p : Product) : Type 0 where
  pub events : List Event
  pub bytes : MadeOfBytes events
  pub ran : p.unit ≡ run events at_start

abbrev pub CommandsNotBelow0 : Type 0
CommandsNotBelow0 = (events : List Event) → MadeOfBytes events → (k : ℕ) → k < 4 → pos 0 ≤ℤ whole (run events at_start) 0x7330 (k + 1)

-- a tick of a list after which both coils were sent 0
pub record BothAt0 (events : List Event) (p : Product) : Type 0 where
  pub earlier : List Event
  pub samples : List ℤ
  pub later : List Event
  pub parts : events ≡ earlier ++ tick samples ∷ later
  pub sent : (works (earlier ++ tick samples ∷ []) p).sent ≡ sent_at_start

-- from the one coil above 0 to the other above 0 there is at least one tick with both at 0
abbrev pub ChangeOver : Type 0
ChangeOver =
    (p : Product) → SinceStart p → (events : List Event) → MadeOfBytes events → (coil : Coil)
    → Above0 (of coil p.sent) → (Above0 (of (other coil) p.sent) → ⊥) → Above0 (of (other coil) (works events p).sent) → BothAt0 events p

-- at every tick of a list the core's command for a coil is above 0
abbrev pub AsksOn : Coil → List Event → List ℕ → Type 0
AsksOn coil [] unit = Unit
AsksOn coil (frame f room ∷ es) unit = AsksOn coil es (happens (frame f room) unit)
AsksOn coil (tick samples ∷ es) unit = Above0 (of coil (commands (ticked samples unit))) × AsksOn coil es (ticked samples unit)
AsksOn coil (load image ∷ es) unit = AsksOn coil es (happens (load image) unit)

-- a coil waits while the other, once above 0, goes on asking
abbrev pub WaitsForTheOther : Type 0
WaitsForTheOther =
    (p : Product) → SinceStart p → (events : List Event) → MadeOfBytes events → (coil : Coil)
    → Above0 (of coil p.sent) → At0 (of (other coil) p.sent) → AsksOn coil events p.unit
    → Above0 (of coil (works events p).sent) × At0 (of (other coil) (works events p).sent)

-- from both at 0 coil 1 goes first; and a coil that asks goes with the tick behind the one that sent the other 0, coil 2 if coil 1 does not ask again
abbrev pub GoesNext : Type 0
GoesNext =
    (p : Product) (samples : List ℤ) → let after = occurs (tick samples) p in let c = commands after.unit in
    (At0 (of two p.sent) → of one after.sent ≡ of one c)
    × ((At0 (of one p.sent) → (Above0 (of one c) → ⊥) → of two after.sent ≡ of two c)
    × (p.sent ≡ sent_at_start → Above0 (of one c) → Above0 (of two c) → At0 (of two after.sent)))
