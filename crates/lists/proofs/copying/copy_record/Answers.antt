-- `lists::copying::copy_record` meets its contract (`CopyingLaws`).
-- Assumes nothing.
use mathlib.Core.Path.{refl, ap, ◌∙◌}
use lib.ListN.{length, take, drop}
use lib.Seq.{length-sets}
use native.Mathlib.Omega.{arith}
use Rattle.lists.proofs.CopyingLaws.{told, record_put}
use Rattle.lists.proofs.copying.copy_record.Goals as goal

pub overflow_sub-past : goal.overflow_sub-past
overflow_sub-past c = let t = told c.args.wanted.now c.args.place c.requires.0 in omega (arith, t.0, t.1)

pub put_eight-requires : goal.put_eight-requires
put_eight-requires c =
    let t = told c.args.wanted.now c.args.place c.requires.0 in
    let room = c.requires.1 in
    (omega (arith, t.1, t.4), omega (arith, t.1, t.3))

pub put_eight-requires-2 : goal.put_eight-requires-2
put_eight-requires-2 c =
    let t = told c.args.wanted.now c.args.place c.requires.0 in
    let room = c.requires.1 in
    let kept = ap length c.put_eight.ensures ∙ length-sets c.args.list.now c.args.at (take 8 (drop c.args.place c.args.wanted.now)) in
    (omega (arith, t.0, t.1, t.4), omega (arith, t.0, t.1, t.3))

pub returns : goal.returns
returns c =
    let t = told c.args.wanted.now c.args.place c.requires.0 in
    (record_put c.args.wanted.now c.args.place c.requires.0 refl c.args.list.now c.args.at c.put_eight.ensures c.put_eight-2.ensures, omega (arith, t.0, t.1, t.4))
