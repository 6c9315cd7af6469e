-- What has been heard is kept from byte to byte (`Steps.Hearing`).
-- Assumes nothing.
use Prim.Native.Nat.{min}
use mathlib.Core.Path.{◌≡◌, refl, ap}
use native.Mathlib.Omega.{arith}
use borrow.Author.Rules.{rules}
use lib.ListN.{length}
use Rattle.session.specs.Dialogue.{kept_of}
use Rattle.session.proofs.dialogue.Steps.{begun, share_most, room_long, onward, done}
use Rattle.session.proofs.dialogue.hear.Goals as goal

pub loop-byte-init : goal.loop-byte-init
loop-byte-init c =
    let a = c.args in
    let long : length a.line.now.bytes ≡ 65 = search rules in
    let least : c.min-line.result ≡ min a.line.now.held 65 = search rules in
    begun (kept_of a.unit.now a.line.now) c.share-part.result.now a.room.now long least

pub take_byte-printed-requires : goal.take_byte-printed-requires
take_byte-printed-requires c =
    let a = c.args in
    let m = c.loop-byte in
    let few = m.invariant.few in
    omega (arith, ap length c.share-part.ensures, share_most a.piece.now a.room.now, room_long m.invariant)

pub loop-byte-preserved : goal.loop-byte-preserved
loop-byte-preserved c = onward c.loop-byte.invariant (omega arith) refl c.take_byte-printed.ensures

pub returns : goal.returns
returns c =
    let a = c.args in
    let part = c.share-part.ensures in
    let room = share_most a.piece.now a.room.now in
    let d = rw part at (done c.loop-byte.invariant (omega (arith, ap length part, room)) (omega arith)) in
    record { kept = d.1; print = d.0; count = ap length part }
