-- Eight bytes as hex digits, a byte a turn, and the line end.
-- Assumes nothing.
use mathlib.Core.List.{[], ◌∷◌}
use mathlib.Core.Path.{◌≡◌, refl, ap}
use native.Mathlib.Omega.{arith}
use lib.ListN.{length, take}
use lib.Seq.{get_or-take, length-sets, length-take-le}
use Rattle.printer.specs.Printing.{hex2, each}
use Rattle.printer.proofs.answer_lines.Lines.{reply_short, reply_long, each_next}
use Rattle.printer.proofs.Stores.{join, printed}
use Rattle.printer.proofs.answer_lines.show_reply.Goals as goal

pub returns-then-reply-lt8 : goal.returns-then-reply-lt8
returns-then-reply-lt8 c = rw (reply_short c.args.reply.now c.if-reply-lt8.true) (record { counted = refl; bytes = refl })

pub loop-b-init : goal.loop-b-init
unfolding each
loop-b-init c = (refl, record { stored = refl; place = refl })

pub loop-b-preserved : goal.loop-b-preserved
unfolding hex2
loop-b-preserved c =
    let m = c.loop-b in
    let r = c.args.reply.now in
    let long = length-take-le 8 r (omega arith) in
    let e = rw (get_or-take 8 r m.b-index 0 (omega arith)) at c.put_hex-at.ensures in (
      omega (arith, e.place),
      rw (each_next hex2 r m.b-index 0 (omega arith)) (join m.invariant.1 e),
    )

pub returns : goal.returns
returns c =
    let m = c.loop-b in
    let s = c.args in
    let k : m.b-index ≡ 8 = omega (arith, length-take-le 8 s.reply.now (omega arith)) in
    let g = join {more = 0x0A ∷ []} (rw k at m.invariant.1) (record { stored = c.put.ensures; place = refl }) in
    let long = length-sets s.out.now 0 (each hex2 (take m.b-index s.reply.now)) in
    rw (reply_long s.reply.now (omega arith)) (printed g (omega (arith, g.place, ap length m.invariant.1.stored, long)))
