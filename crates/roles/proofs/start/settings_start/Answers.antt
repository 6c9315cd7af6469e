-- `fresh::start::settings_start` meets its contract: the table has at the slots between two branches the word that is returned (`StartLaws`).
-- Assumes nothing.
use Prim.Native.Nat.{zero-le}
use mathlib.Core.Path.{refl}
use Rattle.dictionary.specs.Names.{slot_of}
use Rattle.roles.proofs.StartLaws.{starts_on, rule_when, starts_when}
use Rattle.roles.proofs.start.settings_start.Goals as goal

pub returns-then-slot-lt-HYSTERESIS : goal.returns-then-slot-lt-HYSTERESIS
unfolding rule_when starts_when slot_of
returns-then-slot-lt-HYSTERESIS c = starts_on 1 (zero-le) c.if-slot-lt-HYSTERESIS.true refl

pub returns-then-slot-lt-DELAY : goal.returns-then-slot-lt-DELAY
unfolding rule_when starts_when slot_of
returns-then-slot-lt-DELAY c = starts_on 100 c.if-slot-lt-HYSTERESIS.false c.if-slot-lt-DELAY.true refl

pub returns-then-slot-lt-OVERRIDE_FV : goal.returns-then-slot-lt-OVERRIDE_FV
unfolding rule_when starts_when slot_of
returns-then-slot-lt-OVERRIDE_FV c = starts_on 1000 c.if-slot-lt-DELAY.false c.if-slot-lt-OVERRIDE_FV.true refl

pub returns-then-slot-lt-RAMP_UP : goal.returns-then-slot-lt-RAMP_UP
unfolding rule_when starts_when slot_of
returns-then-slot-lt-RAMP_UP c = starts_on 2000 c.if-slot-lt-OVERRIDE_FV.false c.if-slot-lt-RAMP_UP.true refl

pub returns-then-slot-lt-CONTROL_SOURCE : goal.returns-then-slot-lt-CONTROL_SOURCE
unfolding rule_when starts_when slot_of
returns-then-slot-lt-CONTROL_SOURCE c = starts_on 1000 c.if-slot-lt-RAMP_UP.false c.if-slot-lt-CONTROL_SOURCE.true refl

pub returns-then-slot-lt-EC_TO : goal.returns-then-slot-lt-EC_TO
unfolding rule_when starts_when slot_of
returns-then-slot-lt-EC_TO c = starts_on 0 c.if-slot-lt-CONTROL_SOURCE.false c.if-slot-lt-EC_TO.true refl

pub returns : goal.returns
unfolding rule_when starts_when slot_of
returns c = starts_on 1000 c.if-slot-lt-EC_TO.false c.requires refl
