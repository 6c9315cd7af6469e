-- `roles::telling::settings_role` meets its contract: the table holds at the slots between two branches what the role says (`RoleLaws`).
-- Assumes nothing.
use Prim.Native.Nat.{zero-le}
use mathlib.Core.Path.{refl}
use Rattle.dictionary.specs.Names.{slot_of}
use Rattle.roles.specs.declared.types.Role.TheVariants as role
use Rattle.roles.proofs.RoleLaws.{on, told_when, held_when, near}
use Rattle.roles.proofs.telling.settings_role.Goals as goal

pub returns-then-slot-lt-HYSTERESIS : goal.returns-then-slot-lt-HYSTERESIS
unfolding told_when held_when near slot_of
returns-then-slot-lt-HYSTERESIS c = on role.Switch (zero-le) c.if-slot-lt-HYSTERESIS.true refl refl

pub returns-then-slot-lt-DELAY : goal.returns-then-slot-lt-DELAY
unfolding told_when held_when near slot_of
returns-then-slot-lt-DELAY c = on role.Positive c.if-slot-lt-HYSTERESIS.false c.if-slot-lt-DELAY.true refl refl

pub returns-then-slot-lt-OVERRIDE_FV : goal.returns-then-slot-lt-OVERRIDE_FV
unfolding told_when held_when near slot_of
returns-then-slot-lt-OVERRIDE_FV c = on role.Time c.if-slot-lt-DELAY.false c.if-slot-lt-OVERRIDE_FV.true refl refl

pub returns-then-slot-lt-RAMP_UP : goal.returns-then-slot-lt-RAMP_UP
unfolding told_when held_when near slot_of
returns-then-slot-lt-RAMP_UP c = on role.Current c.if-slot-lt-OVERRIDE_FV.false c.if-slot-lt-RAMP_UP.true refl refl

pub returns-then-slot-lt-CONTROL_SOURCE : goal.returns-then-slot-lt-CONTROL_SOURCE
unfolding told_when held_when near slot_of
returns-then-slot-lt-CONTROL_SOURCE c = on role.Time c.if-slot-lt-RAMP_UP.false c.if-slot-lt-CONTROL_SOURCE.true refl refl

pub source_role-requires : goal.source_role-requires
unfolding slot_of
source_role-requires c = (c.if-slot-lt-CONTROL_SOURCE.false, c.if-slot-lt-EC_DIGITS.true)

pub returns-then-slot-lt-EC_FROM : goal.returns-then-slot-lt-EC_FROM
unfolding told_when held_when near slot_of
returns-then-slot-lt-EC_FROM c = on role.Digits c.if-slot-lt-EC_DIGITS.false c.if-slot-lt-EC_FROM.true refl refl

pub returns-then-slot-lt-EC_TO : goal.returns-then-slot-lt-EC_TO
unfolding told_when held_when near slot_of
returns-then-slot-lt-EC_TO c = on role.EcLow c.if-slot-lt-EC_FROM.false c.if-slot-lt-EC_TO.true refl refl

pub returns : goal.returns
unfolding told_when held_when near slot_of
returns c = on role.EcHigh c.if-slot-lt-EC_TO.false c.requires refl refl
