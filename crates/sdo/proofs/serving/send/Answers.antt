-- `serving::send` meets its contract, case by case.
-- Assumes nothing.
use mathlib.Core.Path.{◌≡◌}
use Rattle.sdo.specs.Frames.{reply_to, reply, name_in}
use Rattle.sdo.specs.Served.{filled}
use Rattle.octets.specs.Little.{bytes}
use Rattle.sdo.specs.declared.types.Done.TheVariants.{Value, Written}
use Rattle.sdo.proofs.serving.send.Goals as goal

pub returns-in-Ok-Value : goal.returns-in-Ok-Value
unfolding filled reply_to reply name_in bytes
returns-in-Ok-Value c =
    let v = c.in-Ok-Value in
    let f : v.field-0 ≡ Value v.word v.size = rw v.is at v.field-0-is in
    rw (v.is, f) c.show.ensures

pub returns-in-Ok-Written : goal.returns-in-Ok-Written
unfolding filled reply_to reply name_in bytes
returns-in-Ok-Written c =
    let v = c.in-Ok-Written in
    let f : v.field-0 ≡ Written v.field-0-0 v.field-0-1 = rw v.is at v.field-0-is in
    rw (v.is, f) c.respond.ensures

pub returns-in-Err : goal.returns-in-Err
unfolding filled reply_to reply name_in bytes
returns-in-Err c = rw c.in-Err.is (rw c.code.ensures at c.respond-in-Err.ensures)
